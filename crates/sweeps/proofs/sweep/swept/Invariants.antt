-- as many inputs are counted as were made
use Rattle.std.proofs.Common.{◌≡◌, ◌+◌}
use Rattle.sweeps.proofs.sweep.swept.Given as goal

abbrev pub invariant-loop-number : goal.invariant-loop-number
invariant-loop-number g l = l.tally.admitted + l.tally.refused + l.tally.long ≡ l.number
