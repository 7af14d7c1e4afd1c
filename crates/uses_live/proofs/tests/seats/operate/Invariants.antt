use Rattle.std.proofs.Common.{◌≡◌}
use Rattle.uses_live.proofs.tests.seats.operate.Given as goal

abbrev pub invariant-loop-operation : goal.invariant-loop-operation
invariant-loop-operation g l = l.seat.table ≡ l.initial.seat.table
