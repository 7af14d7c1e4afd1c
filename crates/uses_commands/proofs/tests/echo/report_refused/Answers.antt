use Rattle.apd_driver.proofs.Tallying.{tells_more, tells_none}
use Rattle.uses_commands.proofs.tests.echo.report_refused.Goals as goal

pub loop-line-init : goal.loop-line-init
loop-line-init c = record { told = tells_none _ }

pub loop-line-preserved : goal.loop-line-preserved
loop-line-preserved c = record { told = tells_more _ _ _ c.loop-line.invariant.told c.in_ok-report_one.ensures.told }
