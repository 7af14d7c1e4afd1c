-- Data and block acknowledgement (IEEE 802.11-2016, 10.24 and 11.5): one definition for each rule. Windows and
-- scoreboards move by their own definitions, over whole numbers that never wrap.
use Rattle.std.specs.Prelude.{◌≡◌, ℕ, true, false, Option, Some, None, is_some, List, [], ◌∷◌, ◌++◌, if◌then◌else◌}
use Rattle.std.specs.Option.{option_map}
use Rattle.mac_types.specs.declared.fields.BlockAckPolicy.TheVariants.{Delayed, Immediate}
use Rattle.mac_types.specs.declared.fields.BlockAckParameters.{BlockAckParameters}
use Rattle.mac_types.specs.Fields.{immediate_parameters}
use Rattle.mac_frame.specs.declared.content.Management.TheVariants as management
use Rattle.mac_frame.specs.declared.content.Control.TheVariants as control
use Rattle.mac_frame.specs.Frames.{sent_management, sent_control}
use Rattle.mac_frame.specs.Spelling.{Frame, spelling}
use Rattle.bpf_regions.specs.declared.hooks.Hook.TheVariants as hook
use Rattle.blockack.specs.Window.{opening}
use Rattle.blockack.specs.Scoreboard.{ReadsScoreboard, blank}
use Rattle.blockack.specs.Reading.{Reading, Reads, IsWanted, DataMovesWindow, RequestMovesWindow, EndPassesUp, DataMarksScoreboard, RequestMovesScoreboard}
use Rattle.hooks.specs.declared.verdicts.DataVerdict.{DataVerdict}
use Rattle.hooks.specs.declared.verdicts.DataVerdict.TheVariants.{Pass, Discard}
use Rattle.hooks.specs.Verdicts.{agreement_size, data_verdict}
use Rattle.hooks.specs.Contexts as contexts
use Rattle.ap_model.specs.declared.event.Out.{Out}
use Rattle.ap_model.specs.declared.event.Out.TheVariants.{Up}
use Rattle.ap_model.specs.Asks.{Ask}
use Rattle.ap_model.specs.Readings.{Readings, Rules, Using, Held}
use Rattle.ap_model.specs.Changes.{sends, Settles, Asks, Stays, Agrees, Nothing, Answers}

-- ---- what is passed up

-- a data frame: the frame, its destination, its TID if it is QoS data, and its sequence number
pub record Packet : Type 0 where
  pub frame : Frame
  pub destination : List ℕ
  pub tid : Option ℕ
  pub number : ℕ

-- data passed up, from its parts
abbrev pub up : List ℕ → List ℕ → Option ℕ → ℕ → ℕ → List ℕ → Out
up source destination tid number mark body =
    Up (record { source = source; destination = destination; tid = tid; number = number; mark = mark; body = body })

-- what a verdict passes up at once
abbrev pub let_through : List ℕ → Packet → DataVerdict → List Out
let_through a p (Pass mark) = up a p.destination p.tid p.number mark p.frame.tail ∷ []
let_through a p Discard = []

-- what a window takes at the packet's number: nothing if the verdict drops it
abbrev pub item : Packet → DataVerdict → Option Held
item p (Pass mark) = Some (Some (p.destination, mark, p.frame.tail))
item p Discard = None

-- a held frame, passed up; the placeholder holds nothing
abbrev pub up_held : List ℕ → ℕ → ℕ → Held → List Out
up_held a tid number None = []
up_held a tid number (Some h) = up a h.0 (Some tid) number h.1 h.2 ∷ []

-- what a window releases, passed up in its order
abbrev pub ups : List ℕ → ℕ → List (ℕ × Held) → List Out
ups a tid [] = []
ups a tid (p ∷ passed) = up_held a tid p.0 p.1 ++ ups a tid passed

-- the agreement of station a for the packet's TID
abbrev pub agreement_for : Readings → List ℕ → Option ℕ → Option Using
agreement_for r a None = None
agreement_for r a (Some tid) = r.agreement a tid

-- the query about a data frame; it has the window's start from before the packet
abbrev pub data_ask : Readings → List ℕ → Packet → Ask
data_ask r a p =
    record {
      hook = hook.Data;
      frame = spelling p.frame;
      context = contexts.data_context a (r.standing a) p.tid p.number (option_map (λ u. u.window.start) (agreement_for r a p.tid));
    }

-- ---- data without an agreement

-- data without an agreement: the verdict alone decides whether it is passed up
pub record Delivers (r : Readings) (a : List ℕ) (p : Packet) (asked : List (Ask × ℕ)) (outs : List Out) (r2 : Readings) : Type 0 where
  pub plain : agreement_for r a p.tid ≡ None
  pub verdict : ℕ
  pub asks : Asks (data_ask r a p) verdict asked
  pub is : outs ≡ let_through a p (data_verdict verdict)
  pub stays : Stays r r2

-- ---- data of an agreement (10.24.7.6.2), which counts as a use of it

-- the window takes the packet's item; a dropped packet's number counts as taken
pub record Takes (r : Readings) (a : List ℕ) (p : Packet) (tid : ℕ) (u : Using) (asked : List (Ask × ℕ)) (outs : List Out) (r2 : Readings) : Type 0 where
  pub wanted : IsWanted u.window p.number
  pub verdict : ℕ
  pub asks : Asks (data_ask r a p) verdict asked
  pub window : Reading Held
  pub size : window.size ≡ u.window.size
  pub passed : List (ℕ × Held)
  pub moves : DataMovesWindow true p.number (item p (data_verdict verdict)) u.window window passed
  pub marks : DataMarksScoreboard p.number u.window window
  pub is : outs ≡ ups a tid passed
  pub agrees : Agrees r a tid (Some (record { window = window; timeout = u.timeout; last_use = r.clock })) r2

-- the packet is old or a duplicate: it is discarded, and no judge is asked
pub record Leaves (r : Readings) (a : List ℕ) (p : Packet) (tid : ℕ) (u : Using) (asked : List (Ask × ℕ)) (outs : List Out) (r2 : Readings) : Type 0 where
  pub unwanted : IsWanted u.window p.number → ⊥
  pub settles : Settles [] asked outs
  pub window : Reading Held
  pub size : window.size ≡ u.window.size
  pub moves : DataMovesWindow false p.number None u.window window []
  pub marks : DataMarksScoreboard p.number u.window window
  pub agrees : Agrees r a tid (Some (record { window = window; timeout = u.timeout; last_use = r.clock })) r2

-- data, with an agreement or without
pub data DataComes (r : Readings) (a : List ℕ) (p : Packet) (asked : List (Ask × ℕ)) (outs : List Out) (r2 : Readings) : Type 0 where
  plain : Delivers r a p asked outs r2 → DataComes r a p asked outs r2
  taken : (tid : ℕ) (u : Using) → p.tid ≡ Some tid → r.agreement a tid ≡ Some u → Takes r a p tid u asked outs r2 → DataComes r a p asked outs r2
  left : (tid : ℕ) (u : Using) → p.tid ≡ Some tid → r.agreement a tid ≡ Some u → Leaves r a p tid u asked outs r2 → DataComes r a p asked outs r2

-- ---- BlockAckReq (10.24.7.6.3): what the window passes up, then the BlockAck with the scoreboard; it counts as a use
-- of the agreement

-- the BlockAck that reports a window's scoreboard (IEEE 802.11-2016, 9.3.1.9)
abbrev pub block_ack : Rules → List ℕ → ℕ → Reading Held → Out
block_ack c a tid v = sends (sent_control a c.config.bssid (control.BlockAck tid v.scoreboard_start v.scoreboard_bits))

-- a BlockAckReq under an agreement: the window moves, what it releases is passed up, and a BlockAck reports the
-- scoreboard
pub record Reports (c : Rules) (r : Readings) (a : List ℕ) (tid start : ℕ) (u : Using) (asked : List (Ask × ℕ)) (outs : List Out) (r2 : Readings) : Type 0 where
  pub window : Reading Held
  pub size : window.size ≡ u.window.size
  pub passed : List (ℕ × Held)
  pub moves : RequestMovesWindow start u.window window passed
  pub marks : RequestMovesScoreboard start u.window window
  pub settles : Settles (ups a tid passed ++ block_ack c a tid window ∷ []) asked outs
  pub agrees : Agrees r a tid (Some (record { window = window; timeout = u.timeout; last_use = r.clock })) r2

-- a BlockAckReq: a report if there is an agreement, otherwise nothing
pub data RequestComes (c : Rules) (r : Readings) (a : List ℕ) (tid start : ℕ) (asked : List (Ask × ℕ)) (outs : List Out) (r2 : Readings) : Type 0 where
  unagreed : r.agreement a tid ≡ None → Nothing r asked outs r2 → RequestComes c r a tid start asked outs r2
  agreed : (u : Using) → r.agreement a tid ≡ Some u → Reports c r a tid start u asked outs r2 → RequestComes c r a tid start asked outs r2

-- ---- the end of an agreement (11.5.3): all that it holds is passed up first

-- what an ending agreement holds is passed up
pub data PassesHeld (a : List ℕ) (tid : ℕ) : Option Using → List Out → Type 0 where
  none_held : PassesHeld a tid None []
  held_up : (u : Using) (passed : List (ℕ × Held)) → EndPassesUp u.window passed → PassesHeld a tid (Some u) (ups a tid passed)

-- an agreement ends: what it held is passed up, then `last` is output; without an agreement there is no output
pub record Ends (r : Readings) (a : List ℕ) (tid : ℕ) (last : List Out) (asked : List (Ask × ℕ)) (outs : List Out) (r2 : Readings) : Type 0 where
  pub first : List Out
  pub passes : PassesHeld a tid (r.agreement a tid) first
  pub settles : Settles (if is_some (r.agreement a tid) then first ++ last else []) asked outs
  pub agrees : Agrees r a tid None r2

-- a DELBA from the recipient (9.6.5.4): reason 37 is 'no longer used', 39 'timeout' (Table 9-45)
abbrev pub delba : Rules → List ℕ → ℕ → ℕ → Out
delba c a tid reason = sends (sent_management a c.config.bssid (management.Delba (record { initiator = false; tid = tid }) reason) [])

-- ---- ADDBA request (11.5.2)

-- what an ADDBA request asks for (IEEE 802.11-2016, 9.6.5.2)
pub record Setup : Type 0 where
  pub frame : Frame
  pub token : ℕ
  pub parameters : BlockAckParameters
  pub timeout : ℕ
  pub start : ℕ

-- the response (9.6.5.3): the request's token, TID and timeout, the status, the immediate policy, no A-MSDU, and the
-- size, which is 0 in a refusal
abbrev pub setup_answer : Rules → List ℕ → Setup → ℕ → ℕ → Out
setup_answer c a s status size =
    sends (sent_management a c.config.bssid (management.AddbaResponse s.token status (immediate_parameters s.parameters.tid size) s.timeout) [])

-- the query about an ADDBA request
abbrev pub setup_ask : Readings → List ℕ → Setup → Ask
setup_ask r a s =
    record {
      hook = hook.Addba;
      frame = spelling s.frame;
      context = contexts.addba_context a (r.standing a) s.parameters.tid s.parameters.buffer_size s.timeout s.start;
    }

-- the hook declines: an existing agreement stays
pub record Declines (c : Rules) (r : Readings) (a : List ℕ) (s : Setup) (verdict : ℕ) (asked : List (Ask × ℕ)) (outs : List Out) (r2 : Readings) : Type 0 where
  pub declines : agreement_size verdict s.parameters.buffer_size ≡ None
  pub asks : Asks (setup_ask r a s) verdict asked
  pub is : outs ≡ setup_answer c a s 37 0 ∷ []
  pub stays : Stays r r2

-- the hook grants: an existing agreement is replaced, and all that it held is passed up first
pub record Grants (c : Rules) (r : Readings) (a : List ℕ) (s : Setup) (verdict : ℕ) (asked : List (Ask × ℕ)) (outs : List Out) (r2 : Readings) : Type 0 where
  pub size : ℕ
  pub grants : agreement_size verdict s.parameters.buffer_size ≡ Some size
  pub asks : Asks (setup_ask r a s) verdict asked
  pub first : List Out
  pub passes : PassesHeld a s.parameters.tid (r.agreement a s.parameters.tid) first
  pub is : outs ≡ first ++ setup_answer c a s 0 size ∷ []
  pub window : Reading Held
  pub sized : window.size ≡ size
  pub opens : Reads (opening s.start) window
  pub blanks : ReadsScoreboard (blank s.start size) size window.scoreboard_start window.scoreboard_bits
  pub agrees : Agrees r a s.parameters.tid (Some (record { window = window; timeout = s.timeout; last_use = r.clock })) r2

-- an ADDBA request: a delayed policy is declined with 37, and no judge is asked
pub data SetsUp (c : Rules) (r : Readings) (a : List ℕ) (s : Setup) (asked : List (Ask × ℕ)) (outs : List Out) (r2 : Readings) : Type 0 where
  delayed : s.parameters.policy ≡ Delayed → Answers (setup_answer c a s 37 0) r asked outs r2 → SetsUp c r a s asked outs r2
  declined : (verdict : ℕ) → s.parameters.policy ≡ Immediate → Declines c r a s verdict asked outs r2 → SetsUp c r a s asked outs r2
  granted : (verdict : ℕ) → s.parameters.policy ≡ Immediate → Grants c r a s verdict asked outs r2 → SetsUp c r a s asked outs r2
