-- What was served, and is still to be printed.
use Rattle.std.specs.Prelude.{◌≡◌, ◌⊎◌, ℕ, List, [], Option, Bool}
use Rattle.apd_files.specs.Beginning.{AppendsBeginning}
use Rattle.apd_script.specs.Asked.{commands_of}
use Rattle.apd_script.specs.declared.command.Numbered.{Numbered}
use Rattle.apd_driver.specs.Crews.{Crew}
use Rattle.apd_driver.specs.Lines.{reports_text}
use Rattle.apd_driver.specs.Order.{IsOrdered}
use Rattle.apd_driver.specs.Semantics.{Semantics}
use Rattle.apd_driver.specs.Shows.{Gathered, any_fault, any_memory}
use Rattle.apd_driver.specs.declared.manner.Manner.{Manner}
use Rattle.apd_driver.specs.declared.reports.report.Form.{Form}
use Rattle.apd_driver.specs.declared.reports.report.Report.{Report}

-- an interval of these commands was served, and these are the reports on it, in order; the flags say whether a line says
-- `memory`, and whether one is at fault
pub record Serves {s : Semantics} (manner : Manner) (commands : List Numbered) (crew crew2 : Crew s) (reports : List Report) (memory refused : Bool) : Type 0 where
  pub handed : List Report
  pub gathered : Gathered (commands_of commands) [] crew crew2 handed
  pub ordered : IsOrdered handed reports
  pub memory_is : memory ≡ any_memory reports
  pub refused_is : refused ≡ any_fault manner.strict reports

-- printing these reports, which are in order, breaks off: before it begins, or within them
abbrev pub PrintsBeginning : Form → Option (List ℕ) → Option (List ℕ) → List Report → Type 0
PrintsBeginning form old new reports = (new ≡ old) ⊎ AppendsBeginning old new (reports_text form reports)
