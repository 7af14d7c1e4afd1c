use Rattle.std.proofs.Common.{◌≡◌, ◌+◌, take}
use Rattle.apd_trials.specs.Rows.{passed, failed}
use Rattle.apd_trials.proofs.row.count_rows.Given as goal

abbrev pub invariant-loop-row : goal.invariant-loop-row
invariant-loop-row l = record {
  passes : l.tally.passed ≡ passed (take l.row-index l.rows);
  fails : l.tally.failed ≡ failed (take l.row-index l.rows);
  both : l.tally.passed + l.tally.failed ≡ l.row-index;
}
