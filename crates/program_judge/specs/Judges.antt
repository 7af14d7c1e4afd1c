-- What a judge by programs gives, by the references that it borrowed.
use Rattle.std.specs.Prelude.{◌≡◌, ◌+◌, ◌%◌, ◌^◌, ◌++◌, ◌∷◌, ℕ, []}
use Rattle.ap_model.specs.Asks.{Ask}
use Rattle.bpf_helpers.specs.HookPorts.{given_by}
use Rattle.program_judge.specs.declared.judge.ProgramJudge.{ProgramJudge}
use Rattle.program_judge.specs.Verdicts.{GivesIn}

-- k borrows what j does
pub record Keeps (j k : ProgramJudge) : Type 0 where
  pub programs : k.programs ≡ j.programs
  pub view : k.view ≡ j.view
  pub state : k.state.ghost_name ≡ j.state.ghost_name

-- It keeps what it borrowed, gives the verdict of its programs, counts the steps and lists the query.
pub record Judges (j : ProgramJudge) (ask : Ask) (verdict : ℕ) (k : ProgramJudge) : Type 0 where
  pub keeps : Keeps j k
  pub steps : ℕ
  pub given : GivesIn (given_by j.view) j.programs.now j.state.now ask verdict steps k.state.now
  pub counted : k.steps ≡ (j.steps + steps) % 2 ^ 64
  pub listed : k.asked.asks ≡ j.asked.asks ++ (ask, verdict) ∷ []
