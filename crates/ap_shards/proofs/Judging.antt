-- Verdicts by what a worker decides with.
use Rattle.std.proofs.Common.{◌≡◌, ℕ, List, subst, Bor}
use Rattle.ap_model.specs.Asks.{Ask, Answered}
use Rattle.ap_model.specs.Readings.{Readings}
use Rattle.ap_model.specs.Stations.{AreAssociated}
use Rattle.bpf_helpers.specs.Hooked.{Given}
use Rattle.bpf_helpers.specs.HookPorts.{given_by}
use Rattle.versions.specs.declared.set.ProgramSet.{ProgramSet}
use Rattle.hook_judge.specs.declared.judge.SetJudge.{SetJudge}
use Rattle.hook_judge.specs.Counted.{Counted}
use Rattle.hook_judge.specs.Judges.{loads_of}
use Rattle.hook_judge.specs.Verdicts.{GivesVerdict}
use Rattle.ap_shards.specs.declared.desk.Desk.{Desk}
use Rattle.ap_shards.specs.Desks.{ByDesk}

-- a judge over the worker's tables, by the entered set, with the clock and the stations of these readings
pub by_desk : (d : Desk) (h h2 : Counted) (r : Readings) (n : ℕ) (j : SetJudge) (asked : List (Ask × ℕ)) → AreAssociated r.standing n
    → given_by j.view ≡ record { maps = d.maps.now; worker = d.worker; clock = r.clock; stations = n }
    → j.set ≡ d.set → j.state.now ≡ h
    → Answered (GivesVerdict (given_by j.view) (loads_of j)) j.state.now asked h2 → ByDesk d h h2 r asked
by_desk d h h2 r n j asked are view set state given =
    record {
      stations = n;
      associated = are;
      verdicts =
          subst (λ (g : Given). Answered (GivesVerdict g d.set.now.loads) h asked h2) view
          (subst (λ (s : Bor ProgramSet). Answered (GivesVerdict (given_by j.view) s.now.loads) h asked h2) set
          (subst (λ (x : Counted). Answered (GivesVerdict (given_by j.view) (loads_of j)) x asked h2) state given));
    }
