use Rattle.apd_driver.specs.Tells.{Tells}
use Rattle.uses_commands.proofs.tests.echo.report_refused.Given as goal

abbrev pub invariant-loop-line : goal.invariant-loop-line
invariant-loop-line l = record { told : Tells l.fn.reports.items l.reports.items }
