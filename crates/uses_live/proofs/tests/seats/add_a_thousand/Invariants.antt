use Rattle.std.proofs.Common.{◌≡◌}
use Rattle.uses_live.proofs.tests.seats.add_a_thousand.Given as goal

abbrev pub invariant-loop : goal.invariant-loop
invariant-loop g l = l.seat.table ≡ l.initial.seat.table
