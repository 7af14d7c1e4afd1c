use Rattle.ap_queues.specs.Passes.{IsOperatorOf}
use Rattle.uses_workers.proofs.tests.queue.put_all.Given as goal

abbrev pub invariant-loop-call : goal.invariant-loop-call
invariant-loop-call g l = IsOperatorOf l.queue l.operator
