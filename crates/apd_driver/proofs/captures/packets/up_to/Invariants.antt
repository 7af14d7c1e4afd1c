use Rattle.std.proofs.Common.{◌≡◌, ◌≤◌, ◌+◌, ◌-◌, drop, length}
use Rattle.apd_driver.specs.Capturing.{up_to}
use Rattle.apd_driver.proofs.captures.packets.up_to.Given as goal

-- how many were counted, and how many are left to count
abbrev pub invariant-reports : goal.invariant-reports
invariant-reports l = record {
  within : l.count ≤ length l.reports;
  counted : up_to l.line l.reports ≡ l.count + up_to l.line (drop l.count l.reports);
}

abbrev pub decreases-reports : goal.decreases-reports
decreases-reports l = length l.reports - l.count
