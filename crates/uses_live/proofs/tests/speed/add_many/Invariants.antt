use Rattle.std.proofs.Common.{◌≡◌}
use Rattle.uses_live.proofs.tests.speed.add_many.Given as goal

abbrev pub invariant-loop : goal.invariant-loop
invariant-loop l = l.seat.table ≡ l.initial.seat.table
