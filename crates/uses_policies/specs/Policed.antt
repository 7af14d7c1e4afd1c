-- Verdicts by a worker's policies, and the link runs under them.
use Rattle.std.specs.Prelude.{◌≡◌, ℕ, List, [], ◌∷◌}
use Rattle.std.specs.List.{All}
use Rattle.bpf_helpers.specs.Hooked.{Given}
use Rattle.versions.specs.declared.list.Load.{Load}
use Rattle.ap_model.specs.Asks.{Ask}
use Rattle.ap_model.specs.Readings.{Readings, Rules}
use Rattle.ap_model.specs.Stations.{AreAssociated}
use Rattle.ap_model.specs.Runs.{Entry, Handles}
use Rattle.hook_judge.specs.Counted.{Counted}
use Rattle.hook_judge.specs.Verdicts.{GivesVerdict}
use Rattle.uses_policies.specs.declared.policies.Policies.{Policies}

-- the loads that result in the set
abbrev pub loads_of : Policies → List Load
loads_of p = p.set.now.loads

-- What the programs read: the worker's tables, and the clock and number of associated stations of the shard before the
-- event.
pub record IsGiven (p : Policies) (r : Readings) (g : Given) : Type 0 where
  pub maps : g.maps ≡ p.maps.now
  pub worker : g.worker ≡ p.worker
  pub clock : g.clock ≡ r.clock
  pub stations : AreAssociated r.standing g.stations

-- The verdict is the R0 of a run, within its budget, of the program accepted for the hook, on the query's frame and
-- context; or the number of the verdict tables, if the set has no program for the hook.
pub record IsVerdict (p : Policies) (r : Readings) (ask : Ask) (verdict : ℕ) : Type 0 where
  pub given : Given
  pub is : IsGiven p r given
  pub before : Counted
  pub after : Counted
  pub gives : GivesVerdict given (loads_of p) before ask verdict after

-- each of these is such a verdict
abbrev pub AreVerdicts : Policies → Readings → List (Ask × ℕ) → Type 0
AreVerdicts p r asked = All (λ x. IsVerdict p r x.0 x.1) asked

module _ (p : Policies) (c : Rules) where
  -- the link run of a shard under these policies: each entry is a step after those before it, with the policies'
  -- verdicts
  pub data PolicedRun : Readings → List Entry → Readings → Type 0 where
    no_entry : (r : Readings) → PolicedRun r [] r
    policed : (r mid r2 : Readings) (e : Entry) (later : List Entry) →
        AreVerdicts p r e.asked → Handles c r e mid → PolicedRun mid later r2 → PolicedRun r (e ∷ later) r2
