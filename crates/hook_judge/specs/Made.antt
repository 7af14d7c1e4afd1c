-- Runs and numbers as contracts see them.
use Rattle.std.specs.Prelude.{◌≡◌}
use Rattle.hook_judge.specs.Counts.{Counts, Made}
use Rattle.hook_judge.specs.declared.run.Figures.{Figures}
use Rattle.hook_judge.specs.declared.run.ProgramRun.{ProgramRun}

-- what is counted of a run
abbrev pub made_of : ProgramRun → Made
made_of r = record { load = r.load; budget = r.budget; verdict = r.verdict; steps = r.steps; notes = r.notes.now.items }

-- the numbers of these counts
pub record AreFigures (c : Counts) (f : Figures) : Type 0 where
  pub budget : f.budget ≡ c.budget
  pub runs : f.runs ≡ c.runs
  pub most : f.most ≡ c.most
  pub steps : f.steps ≡ c.steps
  pub granted : f.granted ≡ c.granted
  pub denied : f.denied ≡ c.denied
