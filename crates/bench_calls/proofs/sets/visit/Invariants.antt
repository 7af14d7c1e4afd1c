use Rattle.std.proofs.Common.{◌≡◌}
use Rattle.bench_calls.proofs.sets.visit.Given as goal

abbrev pub invariant-loop : goal.invariant-loop
invariant-loop g l = l.reader.list ≡ l.entrance.list
