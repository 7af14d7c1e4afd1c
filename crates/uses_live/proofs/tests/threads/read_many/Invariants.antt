use Rattle.std.proofs.Common.{◌≡◌}
use Rattle.uses_live.proofs.tests.threads.read_many.Given as goal

abbrev pub invariant-loop : goal.invariant-loop
invariant-loop g l = l.reader.list ≡ l.entrance.list
