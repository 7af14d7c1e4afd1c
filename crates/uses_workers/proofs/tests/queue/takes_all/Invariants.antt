use Rattle.ap_queues.specs.Passes.{IsWorkerOf}
use Rattle.uses_workers.proofs.tests.queue.takes_all.Given as goal

abbrev pub invariant-loop-call : goal.invariant-loop-call
invariant-loop-call g l = IsWorkerOf l.queue l.worker
