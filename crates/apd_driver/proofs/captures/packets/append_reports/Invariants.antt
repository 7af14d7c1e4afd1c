use Rattle.std.proofs.Common.{◌≡◌, ◌++◌, drop}
use Rattle.std.specs.List.{flat_map}
use Rattle.capture.specs.Writing.{blocks_of}
use Rattle.apd_driver.specs.Capturing.{report_packets}
use Rattle.apd_driver.proofs.captures.packets.append_reports.Given as goal

-- what was appended, and what is left to append
abbrev pub invariant-loop-report : goal.invariant-loop-report
invariant-loop-report l =
    l.blocks.items ++ blocks_of (flat_map (report_packets l.time) (drop l.report-index l.reports)) ≡ l.initial.blocks.items ++ blocks_of (flat_map (report_packets l.time) l.reports)
