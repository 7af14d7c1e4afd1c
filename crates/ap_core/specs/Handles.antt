-- How a shard handles an event, with a judge.
use Rattle.std.specs.Prelude.{◌≡◌, ℕ, List, [], ◌∷◌, ◌++◌, Option, Some, None}
use Rattle.assoc.specs.Standings.{Linked, standing}
use Rattle.assoc.specs.Classes.{class_of}
use Rattle.mac_frame.specs.Spelling.{spelling, content_subtype}
use Rattle.blockack.specs.Reading.{EndPassesUp, numbers_held}
use Rattle.hooks.specs.declared.verdicts.DataVerdict.{DataVerdict}
use Rattle.hooks.specs.declared.verdicts.DataVerdict.TheVariants.{Pass, Discard}
use Rattle.ap_model.specs.declared.event.Out.{Out}
use Rattle.ap_model.specs.Readings.{Readings, Rules, Using, Config, Held}
use Rattle.ap_model.specs.Changes.{Agrees}
use Rattle.ap_model.specs.Associations.{Request}
use Rattle.ap_model.specs.Agreements.{Setup, PassesHeld, ups, setup_answer}
use Rattle.ap_agreements.specs.Tables.{Kept, agreement_in}
use Rattle.ap_agreements.specs.Uses.{Opens}
use Rattle.ap_core.specs.declared.state.State.{State}
use Rattle.ap_core.specs.declared.state.Setting.{Setting}
use Rattle.ap_core.specs.declared.state.Came.{Came}
use Rattle.ap_core.specs.declared.management.Asked.{Asked}
use Rattle.ap_core.specs.declared.setups.SetupRequest.{SetupRequest}

-- the readings in a shard's state
abbrev pub reading : State → Readings
reading s = record { standing = standing s.link; agreement = agreement_in s.agreements.kept; clock = s.clock }

-- a shard's number and configuration
abbrev pub rules : ℕ → Config → Rules
rules shard config = record { shard = shard; config = config }

-- the same, from a setting
abbrev pub ruled_by : Setting → State → Rules
ruled_by setting s = rules s.link.shard setting.config.now

-- the sender of a received frame
abbrev pub sender : Came → List ℕ
sender came = came.frame.sender

-- its bytes spell it, and these are its class and its sender's standing
pub record IsRead (link : Linked) (came : Came) : Type 0 where
  pub spelled : came.bytes ≡ spelling came.frame
  pub class : came.class ≡ class_of (content_subtype came.frame.content)
  pub standing : came.standing ≡ standing link (sender came)

-- a request, as the model sees it
abbrev pub request : Asked → Request
request asked = record { frame = asked.came.now.frame; capability = asked.capability; listen_interval = asked.listen_interval; again = asked.again }

-- all that the agreement held is passed up
pub record PassesAll (k : Kept) (old new : List Out) : Type 0 where
  pub passed : List (ℕ × Held)
  pub ends : EndPassesUp k.using.window passed
  pub is : new ≡ old ++ ups k.station k.tid passed

-- how many numbers a replaced agreement holds; 0 if none is replaced
abbrev pub held_replaced : Option Kept → ℕ
held_replaced None = 0
held_replaced (Some k) = numbers_held k.using.window

-- what a window takes of data with this verdict
abbrev pub held_item : List ℕ → List ℕ → DataVerdict → Option Held
held_item destination body (Pass mark) = Some (Some (destination, mark, body))
held_item destination body Discard = None

-- an ADDBA request, as the model sees it
abbrev pub setup : SetupRequest → Setup
setup asked = record { frame = asked.came.now.frame; token = asked.token; parameters = asked.parameters; timeout = asked.timeout; start = asked.start }

-- a granted request: its outputs, and the agreement
pub record IsGranted (c : Rules) (r : Readings) (a : List ℕ) (s : Setup) (size : ℕ) (outs : List Out) (r2 : Readings) : Type 0 where
  pub first : List Out
  pub passes : PassesHeld a s.parameters.tid (r.agreement a s.parameters.tid) first
  pub is : outs ≡ first ++ setup_answer c a s 0 size ∷ []
  pub using : Using
  pub opens : Opens s.start size s.timeout r.clock using
  pub agrees : Agrees r a s.parameters.tid (Some using) r2
