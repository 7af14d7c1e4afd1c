-- What a history says of an agreement (IEEE 802.11-2016, 10.24 and 11.5): all that it took, over whole numbers that
-- never wrap.
use Rattle.std.specs.Prelude.{◌≡◌, ℕ, ◌+◌, ◌-◌, ◌^◌, ◌≤◌, min, true, false, Option, Some, None, List, [], ◌∷◌}
use Rattle.mac_types.specs.declared.fields.QosControl.{QosControl}
use Rattle.mac_types.specs.declared.fields.BlockAckParameters.{BlockAckParameters}
use Rattle.mac_types.specs.declared.fields.DelbaParameters.{DelbaParameters}
use Rattle.mac_frame.specs.declared.content.Management.TheVariants as management
use Rattle.mac_frame.specs.declared.content.Control.TheVariants as control
use Rattle.mac_frame.specs.declared.content.DataKind.TheVariants as kinds
use Rattle.mac_frame.specs.declared.content.Content.TheVariants as content
use Rattle.mac_frame.specs.Spelling.{Frame}
use Rattle.blockack.specs.Window.{Window, opening, DataStep, RequestStep}
use Rattle.blockack.specs.Scoreboard.{Scoreboard, blank, DataMark, RequestMark}
use Rattle.hooks.specs.Verdicts.{agreement_size, data_verdict}
use Rattle.ap_model.specs.declared.event.Event.{Event}
use Rattle.ap_model.specs.declared.event.Event.TheVariants as event
use Rattle.ap_model.specs.Asks.{Ask}
use Rattle.ap_model.specs.Readings.{Rules, Held}
use Rattle.ap_model.specs.Agreements.{Packet, item}
use Rattle.ap_model.specs.Runs.{Entry}
use Rattle.ap_laws.specs.Exchanges.{Exchange, ComesFrom, IsExchange}

-- all that it took and its window's start, the window's size, the scoreboard, the timeout, and the time of its last
-- use
pub record Agreement : Type 0 where
  pub window : Window Held
  pub size : ℕ
  pub board : Scoreboard
  pub timeout : ℕ
  pub last_use : ℕ

-- the clock after an event: the sum of the ticks, at most 2 ^ 64 - 1
abbrev pub advanced : Event → ℕ → ℕ
advanced (event.Tick n) clock = min (clock + n) (2 ^ 64 - 1)
advanced (event.Frame bytes) clock = clock
advanced (event.Kick a reason) clock = clock
advanced (event.Close a tid) clock = clock

-- the clock after a history, whose newest entry is first
abbrev pub clock_after : List Entry → ℕ
clock_after [] = 0
clock_after (e ∷ older) = advanced e.event (clock_after older)

-- ---- what an entry does to the agreement of station a for a TID, at this time

module _ (c : Rules) (e : Entry) (a : List ℕ) (tid clock : ℕ) where
  -- a request that the hook grants opens it
  pub record Opens (new : Agreement) : Type 0 where
    pub frame : Frame
    pub comes : ComesFrom c e a frame
    pub bssid : List ℕ
    pub sequence : ℕ
    pub token : ℕ
    pub parameters : BlockAckParameters
    pub timeout : ℕ
    pub start : ℕ
    pub content : frame.content ≡ content.Management bssid sequence (management.AddbaRequest token parameters timeout start)
    pub for_tid : parameters.tid ≡ tid
    pub ask : Ask
    pub verdict : ℕ
    pub asked : e.asked ≡ (ask, verdict) ∷ []
    pub size : ℕ
    pub grants : agreement_size verdict parameters.buffer_size ≡ Some size
    pub is : new ≡ record { window = opening start; size = size; board = blank start size; timeout = timeout; last_use = clock }

  -- QoS data for it
  pub record IsItsData (p : Packet) : Type 0 where
    pub comes : ComesFrom c e a p.frame
    pub qos : QosControl
    pub content : p.frame.content ≡ content.Data p.destination p.number (kinds.QosData qos)
    pub for_tid : qos.tid ≡ tid

  -- this entry uses it, and it keeps its size and its timeout
  pub record IsUsed (old new : Agreement) : Type 0 where
    pub size : new.size ≡ old.size
    pub timeout : new.timeout ≡ old.timeout
    pub now : new.last_use ≡ clock

  -- data uses it, and its window takes the data by a verdict or leaves it without one; or a BlockAckReq uses it
  pub data Uses (old new : Agreement) : Type 0 where
    takes : (p : Packet) (ask : Ask) (verdict : ℕ) → IsItsData p → e.asked ≡ (ask, verdict) ∷ [] → IsUsed old new →
        DataStep true old.size p.number (item p (data_verdict verdict)) old.window new.window → DataMark old.size p.number old.board new.board → Uses old new
    leaves : (p : Packet) → IsItsData p → e.asked ≡ [] → IsUsed old new →
        DataStep false old.size p.number None old.window new.window → DataMark old.size p.number old.board new.board → Uses old new
    requests : (f : Frame) (start : ℕ) → ComesFrom c e a f → f.content ≡ content.Control (control.BlockAckReq tid start) → IsUsed old new →
        RequestStep start old.window new.window → RequestMark old.size start old.board new.board → Uses old new

  -- a DELBA of its originator ends it, or a command to close it, or a tick by which its timeout has passed without use
  pub data Ends (old : Agreement) : Type 0 where
    deleted : (f : Frame) (bssid : List ℕ) (sequence : ℕ) (parameters : DelbaParameters) (reason : ℕ) → ComesFrom c e a f →
        f.content ≡ content.Management bssid sequence (management.Delba parameters reason) → parameters.initiator ≡ true → parameters.tid ≡ tid → Ends old
    closed : e.event ≡ event.Close a tid → Ends old
    late : (n : ℕ) → e.event ≡ event.Tick n → 1 ≤ old.timeout → old.last_use + old.timeout ≤ clock → Ends old

  -- an exchange of the station discards it, with what it holds
  pub record Drops : Type 0 where
    pub exchange : Exchange
    pub is : IsExchange c e a exchange

  -- the entry does nothing to it, whether it exists or not
  pub record LeavesAlone (old : Option Agreement) : Type 0 where
    pub not_opened : (new : Agreement) → Opens new → ⊥
    pub not_used : (g new : Agreement) → old ≡ Some g → Uses g new → ⊥
    pub not_ended : (g : Agreement) → old ≡ Some g → Ends g → ⊥
    pub not_dropped : (g : Agreement) → old ≡ Some g → Drops → ⊥

-- what a history says of the agreement of station a for a TID, and the entries since it was opened, newest first
pub data Agreed (c : Rules) (a : List ℕ) (tid : ℕ) : List Entry → Option Agreement → List Entry → Type 0 where
  never_yet : Agreed c a tid [] None []
  opened : (e : Entry) (older since : List Entry) (old : Option Agreement) (new : Agreement) →
      Opens c e a tid (clock_after (e ∷ older)) new → Agreed c a tid older old since → Agreed c a tid (e ∷ older) (Some new) []
  used : (e : Entry) (older since : List Entry) (old new : Agreement) →
      Uses c e a tid (clock_after (e ∷ older)) old new → Agreed c a tid older (Some old) since → Agreed c a tid (e ∷ older) (Some new) (e ∷ since)
  ended : (e : Entry) (older since : List Entry) (old : Agreement) →
      Ends c e a tid (clock_after (e ∷ older)) old → Agreed c a tid older (Some old) since → Agreed c a tid (e ∷ older) None []
  dropped : (e : Entry) (older since : List Entry) (old : Agreement) →
      Drops c e a tid (clock_after (e ∷ older)) → Agreed c a tid older (Some old) since → Agreed c a tid (e ∷ older) None []
  alone : (e : Entry) (older since : List Entry) (old : Option Agreement) →
      LeavesAlone c e a tid (clock_after (e ∷ older)) old → Agreed c a tid older old since → Agreed c a tid (e ∷ older) old (e ∷ since)
