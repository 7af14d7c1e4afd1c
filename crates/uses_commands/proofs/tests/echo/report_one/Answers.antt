use Rattle.std.proofs.Common.{refl}
use Rattle.apd_driver.specs.declared.reports.report.Told.TheVariants.{Memory}
use Rattle.apd_driver.specs.declared.reports.report.Report.{Report}
use Rattle.apd_driver.proofs.Tallying.{tells_one}
use Rattle.uses_commands.proofs.tests.echo.report_one.Goals as goal

pub returns : goal.returns
returns c =
    let report : Report = record { line = c.args.line; shard = 0; told = Memory } in
    record { told = tells_one _ _ _ report refl c.in_ok-reserve.ensures.items c.push_reserved.ensures.items }
