-- Whose verdicts an entry has.
use Rattle.std.specs.Prelude.{◌≡◌, ℕ, List}
use Rattle.ap_model.specs.Asks.{Ask, Answered}
use Rattle.ap_model.specs.Readings.{Readings}
use Rattle.ap_model.specs.Stations.{AreAssociated}
use Rattle.bpf_helpers.specs.Tables.{Tables}
use Rattle.versions.specs.declared.list.Load.{Load}
use Rattle.hook_judge.specs.Counted.{Counted}
use Rattle.hook_judge.specs.Verdicts.{GivesVerdict}
use Rattle.ap_shards.specs.declared.fate.Fate.{Fate}
use Rattle.ap_shards.specs.declared.fate.Fate.TheVariants.{Decided, Refused, NotHandled}

-- The programs that these loads result in gave the verdicts over this worker's tables, whose state went from h to h2,
-- with each run counted once, and with the shard's clock before the entry and the number of stations associated there.
pub record JudgedBy (maps : List Tables) (worker : ℕ) (loads : List Load) (h h2 : Counted) (r : Readings) (asked : List (Ask × ℕ)) : Type 0 where
  pub stations : ℕ
  pub associated : AreAssociated r.standing stations
  pub verdicts : Answered (GivesVerdict (record { maps = maps; worker = worker; clock = r.clock; stations = stations }) loads) h asked h2

-- any judge gave them
abbrev pub AnyVerdicts : Readings → List (Ask × ℕ) → Type 0
AnyVerdicts r asked = Unit {0}

-- a worker's state is unchanged unless the event was decided
abbrev pub HoldsOn : Fate → Counted → Counted → Type 0
HoldsOn (Decided outs dropped) h h2 = Unit {0}
HoldsOn Refused h h2 = h2 ≡ h
HoldsOn NotHandled h h2 = h2 ≡ h

-- the event was decided or refused
abbrev pub WasTaken : Fate → Type 0
WasTaken (Decided outs dropped) = Unit {0}
WasTaken Refused = Unit {0}
WasTaken NotHandled = ⊥
