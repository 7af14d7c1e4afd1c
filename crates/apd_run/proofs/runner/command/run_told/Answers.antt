use Rattle.std.proofs.Common.{inr, refl}
use Rattle.apd_run.specs.NewRuns.{NotBegun}
use Rattle.apd_run.proofs.Captured.{if_low}
use Rattle.apd_run.proofs.runner.command.run_told.Goals as goal

pub returns-in_default : goal.returns-in_default
returns-in_default g c = record { runs = NotBegun _ refl (inr refl); keeps = if_low _ (inr refl) }
