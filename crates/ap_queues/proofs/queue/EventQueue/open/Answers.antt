use Rattle.std.proofs.Common.{rules}
use Rattle.ap_queues.proofs.Moves.{begins, founds}
use Rattle.ap_queues.proofs.queue.EventQueue.open.Goals as goal

pub ruled-requires-clause-rule : goal.ruled-requires-clause-rule
ruled-requires-clause-rule c = begins

pub another-worker-requires-clause-rule : goal.another-worker-requires-clause-rule
another-worker-requires-clause-rule c = founds _ _ (search rules) (search rules)
