use Rattle.ap_queues.specs.Passes.{IsMakerOf}
use Rattle.uses_workers.proofs.tests.queue.count_operators.Given as goal

abbrev pub invariant-loop : goal.invariant-loop
invariant-loop l = IsMakerOf l.queue l.maker
