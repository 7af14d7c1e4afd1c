use Rattle.std.proofs.Common.{◌+◌, ◌≤◌, length}
use Rattle.apd_script.specs.Script.{lines_of}
use Rattle.apd_cases.specs.Said.{lines_said}
use Rattle.apd_cases.proofs.LineByLine.{IsReadTo}
use Rattle.apd_cases.proofs.cases.read_cases.Given as goal

abbrev pub invariant-loop-lines : goal.invariant-loop-lines
invariant-loop-lines l = record {
  read : IsReadTo (lines_of l.text) l.before (lines_of l.rest) (lines_said l.lines.items);
  shorter : l.before + length l.rest ≤ length l.text;
}

abbrev pub decreases-loop-lines : goal.decreases-loop-lines
decreases-loop-lines l = length l.rest
