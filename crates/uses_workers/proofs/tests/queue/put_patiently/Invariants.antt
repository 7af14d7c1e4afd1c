use Rattle.ap_queues.specs.Passes.{IsOperatorOf}
use Rattle.uses_workers.proofs.tests.queue.put_patiently.Given as goal

abbrev pub invariant-loop : goal.invariant-loop
invariant-loop g l = IsOperatorOf l.queue l.operator
