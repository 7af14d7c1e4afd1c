-- What a judge by programs gives, by the references that it borrowed.
use Rattle.std.specs.Prelude.{◌≡◌, ◌+◌, ◌%◌, ◌^◌, ◌++◌, ◌∷◌, ℕ, List, []}
use Rattle.ap_model.specs.Asks.{Ask}
use Rattle.versions.specs.declared.list.Load.{Load}
use Rattle.bpf_helpers.specs.HookPorts.{given_by}
use Rattle.hook_judge.specs.declared.judge.SetJudge.{SetJudge}
use Rattle.hook_judge.specs.Verdicts.{GivesIn}

-- the loads that result in the programs by which it judges
abbrev pub loads_of : SetJudge → List Load
loads_of j = j.set.now.loads

-- k borrows what j does
pub record Keeps (j k : SetJudge) : Type 0 where
  pub set : k.set ≡ j.set
  pub view : k.view ≡ j.view
  pub state : k.state.ghost_name ≡ j.state.ghost_name

-- It keeps what it borrowed, gives the verdict of its programs, counts the run and its steps, and lists the query.
pub record Judges (j : SetJudge) (ask : Ask) (verdict : ℕ) (k : SetJudge) : Type 0 where
  pub keeps : Keeps j k
  pub steps : ℕ
  pub given : GivesIn (given_by j.view) (loads_of j) j.state.now ask verdict steps k.state.now
  pub counted : k.steps ≡ (j.steps + steps) % 2 ^ 64
  pub listed : k.asked.asks ≡ j.asked.asks ++ (ask, verdict) ∷ []
