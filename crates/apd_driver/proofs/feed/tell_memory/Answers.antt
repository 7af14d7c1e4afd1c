use Rattle.std.proofs.Common.{refl}
use Rattle.apd_driver.specs.declared.reports.report.Told.TheVariants.{Memory}
use Rattle.apd_driver.specs.declared.reports.report.Report.{Report}
use Rattle.apd_driver.proofs.Tallying.{tells_one}
use Rattle.apd_driver.proofs.feed.tell_memory.Goals as goal

pub returns-clause-told : goal.returns-clause-told
returns-clause-told c =
    let report : Report = record { line = c.args.line; shard = 0; told = Memory } in
    tells_one _ _ _ report refl c.in_ok-reserve.ensures.items (rw c.of_line.ensures at c.push_reserved.ensures.items)
