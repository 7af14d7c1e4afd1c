use Rattle.std.proofs.Common.{refl}
use Rattle.apd_driver.specs.declared.reports.report.Told.TheVariants.{Malformed}
use Rattle.apd_driver.specs.declared.reports.report.Report.{Report}
use Rattle.apd_driver.proofs.Gathering.{answers_one}
use Rattle.apd_driver.proofs.Tallying.{tells_one}
use Rattle.apd_driver.proofs.feed.tell_malformed_line.Goals as goal

pub returns : goal.returns
returns c =
    let report : Report = record { line = c.args.malformed.now.line; shard = 0; told = Malformed c.in_ok-why.why } in
    record {
      answers = answers_one _ _ _ _ report refl c.in_ok-reserve.ensures.items (rw c.of_line.ensures at c.push_reserved.ensures.items);
      told = tells_one _ _ _ report refl c.in_ok-reserve.ensures.items (rw c.of_line.ensures at c.push_reserved.ensures.items);
    }
