-- The report is on the files so far.
use Rattle.std.proofs.Common.{◌≡◌, take}
use Rattle.apd_words.specs.Asked.{texts_of}
use Rattle.apd_program.specs.Testing.{Covers}
use Rattle.apd_program.proofs.case_files.report_on.Given as goal

abbrev pub invariant-loop-path : goal.invariant-loop-path
invariant-loop-path g l = record {
  covers : Covers (g.F.Files.held l.fn.files) (texts_of (take l.path-index l.paths)) l.report;
  same : g.F.Files.held l.files ≡ g.F.Files.held l.fn.files;
}
