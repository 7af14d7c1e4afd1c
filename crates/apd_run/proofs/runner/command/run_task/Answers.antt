use Rattle.std.proofs.Common.{inr, refl}
use Rattle.apd_run.specs.NewRuns.{NotBegun}
use Rattle.apd_run.proofs.Captured.{if_low}
use Rattle.apd_run.proofs.NewRuns.{runs_under}
use Rattle.apd_run.proofs.runner.command.run_task.Goals as goal

pub returns-in_default : goal.returns-in_default
returns-in_default g c = record { runs = NotBegun _ refl (inr refl); keeps = if_low _ (inr refl) }

pub returns : goal.returns
returns g c = record { runs = runs_under _ c.settings.ensures.link c.settings.ensures.shapes c.run_live.ensures.runs; keeps = c.run_live.ensures.keeps }
