-- What the operator appends to a list of reports.
use Rattle.std.specs.Prelude.{◌≡◌, List, ◌++◌}
use Rattle.ap_books.specs.Counts.{none}
use Rattle.apd_driver.specs.declared.reports.report.Report.{Report}
use Rattle.apd_driver.specs.Tallies.{tallied}

-- reports that count nothing were appended
pub record Tells (list list2 : List Report) : Type 0 where
  pub reports : List Report
  pub listed : list2 ≡ list ++ reports
  pub nothing : tallied reports ≡ none
