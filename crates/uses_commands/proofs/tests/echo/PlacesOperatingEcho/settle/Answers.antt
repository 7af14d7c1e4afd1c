use Rattle.std.proofs.Common.{[], ap, sym}
use Rattle.ap_books.specs.Counts.{none}
use Rattle.apd_driver.specs.Crews.{gains}
use Rattle.apd_driver.specs.Following.{FromNone, FromOneMore}
use Rattle.uses_commands.proofs.tests.echo.PlacesOperatingEcho.settle.Goals as goal

pub returns : goal.returns
returns c =
    let told = c.in_ok-report_refused.ensures.told in
    record {
      collects = record { reports = told.reports; listed = told.listed; taken = FromOneMore tt tt [] told.reports FromNone tt; counted = ap (gains (record { workers = c.args.self.now.workers; counted = none; work = tt })) (sym told.nothing) };
    }
