-- A received data frame, and how it is handled.
use Rattle.std.specs.Prelude.{◌≡◌, ℕ, Bool, Option, Some, List}
use Rattle.bpf_regions.specs.declared.hooks.Hook.TheVariants as hook
use Rattle.mac_frame.specs.Spelling.{spelling}
use Rattle.assoc.specs.Standings.{Standings, standing}
use Rattle.blockack.specs.Reading.{Reading, IsWanted, most_passed}
use Rattle.hooks.specs.Contexts as contexts
use Rattle.hooks.specs.Verdicts.{data_verdict}
use Rattle.ap_model.specs.declared.event.Out.{Out}
use Rattle.ap_model.specs.Asks.{Ask}
use Rattle.ap_model.specs.Readings.{Held}
use Rattle.ap_model.specs.Changes.{Asks}
use Rattle.ap_model.specs.Agreements.{Packet, DataComes, let_through}
use Rattle.ap_agreements.specs.Tables.{Kept, Stands}
use Rattle.ap_core.specs.declared.state.State.{State}
use Rattle.ap_core.specs.declared.packets.DataFrame.{DataFrame}
use Rattle.ap_core.specs.declared.packets.Under.{Under}
use Rattle.ap_core.specs.Handles.{reading}
use Rattle.ap_core.specs.Telling.{Tells}

-- a data frame, as the model sees it
abbrev pub packet : DataFrame → Packet
packet d = record { frame = d.frame; destination = d.destination; tid = d.tid; number = d.number }

-- its bytes spell it, and this is its sender's standing
pub record IsRead (st : Standings) (d : DataFrame) : Type 0 where
  pub spelled : d.bytes ≡ spelling d.frame
  pub standing : d.standing ≡ st d.frame.sender

-- its agreement is at that index, and P holds of its window and its number
pub record IsUnder (ks : List Kept) (d : DataFrame) (under : Under) (P : Reading Held → ℕ → Type 0) : Type 0 where
  pub tid : d.tid ≡ Some under.tid
  pub kept : Kept
  pub stands : Stands ks d.frame.sender under.tid under.at kept
  pub starts : under.start ≡ kept.using.window.start
  pub is : P kept.using.window d.number

-- the window wants data with this sequence number, for which this is the bound on the frames that it passes up
pub record IsWantedFor (most : ℕ) (window : Reading Held) (number : ℕ) : Type 0 where
  pub wanted : IsWanted window number
  pub bound : most_passed window number ≡ most

-- its verdict is asked for with this window start, and passes it up or drops it
pub record IsJudged (st : Standings) (p : Packet) (start : Option ℕ) (asked : List (Ask × ℕ)) (outs : List Out) : Type 0 where
  pub verdict : ℕ
  pub asks : Asks (record { hook = hook.Data; frame = spelling p.frame; context = contexts.data_context p.frame.sender (st p.frame.sender) p.tid p.number start }) verdict asked
  pub is : outs ≡ let_through p.frame.sender p (data_verdict verdict)

-- the same, with the judge's verdict
abbrev pub JudgesData : {S : Type 0} → (S → Ask → ℕ → S → Type 0) → State → DataFrame → Option ℕ → S → List Out → Bool → S → Type 0
JudgesData R s d start j outs dropped j2 = Tells R (IsJudged (standing s.link) (packet d) start) j outs dropped j2

-- data came, with the judge's verdict
abbrev pub HandlesData : {S : Type 0} → (S → Ask → ℕ → S → Type 0) → State → DataFrame → S → List Out → Bool → State → S → Type 0
HandlesData R s d j outs dropped s2 j2 = Tells R (λ asked outs. DataComes (reading s) d.frame.sender (packet d) asked outs (reading s2)) j outs dropped j2
