use Rattle.ap_queues.proofs.Moves.{takes}
use Rattle.ap_queues.proofs.queue.EventQueue.take.Goals as goal

pub pop_as-requires-clause-rule : goal.pop_as-requires-clause-rule
pop_as-requires-clause-rule g c = (takes _ _ c.args.worker.now.takes, λ items views h at. tt)
