-- Runs one after another.
use Rattle.std.specs.Prelude.{ℕ, ◌<◌, Option, List, ◌++◌}
use Rattle.ap_model.specs.declared.event.Event.{Event}
use Rattle.ap_model.specs.declared.event.Out.{Out}
use Rattle.ap_model.specs.Asks.{Ask}
use Rattle.ap_model.specs.Readings.{Readings, Rules}
use Rattle.ap_model.specs.Runs.{Entry, Run, opening, History}
use Rattle.ap_model.specs.AccessPoint.{EventsLead}

-- a run, followed by one from the readings that it leaves, is a run
abbrev pub RunsAppend : Type 0
RunsAppend = (c : Rules) (r mid r2 : Readings) (first more : List Entry) → Run c r first mid → Run c mid more r2 → Run c r (first ++ more) r2

-- what events lead to, followed by what others lead to from there, is what all of them lead to
abbrev pub LeadsAppend : {S : Type 0} → (S → Ask → ℕ → S → Type 0) → Type 0
LeadsAppend {S} R =
    (c : ℕ → Rules) (r mid r2 : ℕ → Readings) (events more : List Event) (j k l : S) (results others : List (Option (List Out))) →
    EventsLead R c r events j results mid k → EventsLead R c mid more k others r2 l →
    EventsLead R c r (events ++ more) j (results ++ others) r2 l

-- a history for each of eight shards
pub record Histories (c : ℕ → Rules) (r : ℕ → Readings) : Type 0 where
  pub entries : ℕ → List Entry
  pub runs : (s : ℕ) → s < 8 → Run (c s) opening (entries s) (r s)

-- if each of eight shards has a history, there are eight histories together
abbrev pub HistoriesMeet : Type 0
HistoriesMeet = (c : ℕ → Rules) (r : ℕ → Readings) → ((s : ℕ) → s < 8 → ∥ History (c s) (r s) ∥₁) → ∥ Histories c r ∥₁
