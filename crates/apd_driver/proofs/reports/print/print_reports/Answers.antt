use Rattle.std.proofs.Common.{◌∙◌}
use Rattle.apd_driver.proofs.Moves.{next_text, moves_more, begins_more, begins_last}
use Rattle.apd_driver.proofs.reports.print.print_reports.Goals as goal

pub returns-in_err-print_report-clause-beginning : goal.returns-in_err-print_report-clause-beginning
returns-in_err-print_report-clause-beginning g c =
    begins_more _ _ _ _ _ _ _ _ c.loop-report.invariant.moved
    (next_text c.args.form c.args.reports.now c.loop-report.report-index c.report-item.result c.loop-report-test.true c.report-item.is)
    c.in_err-print_report.ensures.beginning

pub loop-report-preserved : goal.loop-report-preserved
loop-report-preserved g c =
    record {
      moved = moves_more _ _ _ _ _ _ _ _ _ c.loop-report.invariant.moved
          (next_text c.args.form c.args.reports.now c.loop-report.report-index c.report-item.result c.loop-report-test.true c.report-item.is)
          c.in_ok-print_report.ensures.moved;
      kept = c.print_report.ensures.kept ∙ c.loop-report.invariant.kept;
    }

pub returns-in_err-flush-clause-beginning : goal.returns-in_err-flush-clause-beginning
returns-in_err-flush-clause-beginning g c = begins_last _ _ _ _ _ _ c.loop-report.invariant.moved c.in_err-flush.ensures.beginning

pub returns-clause-beginning : goal.returns-clause-beginning
returns-clause-beginning g c = begins_last _ _ _ _ _ _ c.loop-report.invariant.moved c.in_ok-flush.ensures.beginning
