use Rattle.std.proofs.Common.{◌≡◌}
use Rattle.versions.specs.Desks.{pending}
use Rattle.versions.proofs.publisher.put.Given as goal

abbrev pub invariant-loop : goal.invariant-loop
invariant-loop g l =
    (l.writer.desk ≡ l.fn.writer.desk) × (pending l.writer ≡ pending l.fn.writer) × (l.next ≡ l.fn.next)
