use Rattle.ap_queues.specs.Passes.{IsWorkerOf}
use Rattle.uses_workers.proofs.tests.queue.take_patiently.Given as goal

abbrev pub invariant-loop : goal.invariant-loop
invariant-loop g l = IsWorkerOf l.queue l.worker
