use Rattle.ap_queues.proofs.Moves.{hires}
use Rattle.ap_queues.proofs.queue.EventQueue.operator.Goals as goal

pub another-pass-requires-clause-rule : goal.another-pass-requires-clause-rule
another-pass-requires-clause-rule c = hires _ _ c.args.maker.now.makes
