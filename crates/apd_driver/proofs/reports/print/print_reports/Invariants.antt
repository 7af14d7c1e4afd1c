use Rattle.std.proofs.Common.{◌≡◌, ◌++◌, drop}
use Rattle.apd_driver.specs.Lines.{reports_text}
use Rattle.apd_driver.specs.Moving.{MovesOn}
use Rattle.apd_driver.proofs.reports.print.print_reports.Given as goal

-- what was written, and what is left to write: the text, and the remaining reports
abbrev pub invariant-loop-report : goal.invariant-loop-report
invariant-loop-report g l =
    record {
      moved : MovesOn (g.W.Write.contents l.initial.writer) (g.W.Write.contents l.writer) (reports_text l.form l.reports) (l.text.items ++ reports_text l.form (drop l.report-index l.reports));
      kept : g.W.Printing.recorded l.writer ≡ g.W.Printing.recorded l.initial.writer;
    }
