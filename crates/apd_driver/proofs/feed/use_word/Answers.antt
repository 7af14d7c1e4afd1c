use Rattle.std.proofs.Common.{None, Some}
use Rattle.apd_driver.specs.declared.reports.report.Report.{Report}
use Rattle.apd_driver.specs.Following.{DoesIt}
use Rattle.apd_driver.proofs.Followed.{lists_nothing, lists_told}
use Rattle.apd_driver.proofs.Tallying.{tells_one}
use Rattle.apd_driver.proofs.feed.use_word.Goals as goal

pub returns-in-Some-clause-follows : goal.returns-in-Some-clause-follows
returns-in-Some-clause-follows g c =
    lists_told _ _ _ _ _ (Some c.in-Some.answer) _ _ _ c.in-Some.ensures.does c.in_ok-reserve.ensures.items (rw c.of_line.ensures at c.push_reserved.ensures.items)

pub returns-in-Some-clause-told : goal.returns-in-Some-clause-told
returns-in-Some-clause-told g c =
    let report : Report = record { line = c.args.line; shard = 0; told = c.in-Some.answer } in
    tells_one _ _ _ report c.in-Some.ensures.nothing c.in_ok-reserve.ensures.items (rw c.of_line.ensures at c.push_reserved.ensures.items)

pub returns-in_default-clause-follows : goal.returns-in_default-clause-follows
returns-in_default-clause-follows g c = lists_nothing _ _ _ _ _ _ _ (DoesIt None (rw c.in_default.is at c.use_word.ensures.does)) c.in_ok-reserve.ensures.items
