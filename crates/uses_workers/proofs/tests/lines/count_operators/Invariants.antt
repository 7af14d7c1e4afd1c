use Rattle.ap_queues.specs.Lines.{ArePassesOf}
use Rattle.uses_workers.proofs.tests.lines.count_operators.Given as goal

abbrev pub invariant-loop : goal.invariant-loop
invariant-loop l = ArePassesOf l.lines l.left
