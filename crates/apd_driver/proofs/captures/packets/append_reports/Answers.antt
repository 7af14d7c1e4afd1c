use Rattle.apd_driver.specs.Capturing.{report_packets}
use Rattle.apd_driver.proofs.Packets.{next_blocks, one_more}
use Rattle.apd_driver.proofs.captures.packets.append_reports.Goals as goal

pub loop-report-preserved : goal.loop-report-preserved
loop-report-preserved c =
    one_more _ _ _ _ _ _ c.loop-report.invariant
    (next_blocks (report_packets c.args.time) c.args.reports.now c.loop-report.report-index c.report-item.result c.loop-report-test.true c.report-item.is)
    c.in_ok-append_report.ensures.ok
