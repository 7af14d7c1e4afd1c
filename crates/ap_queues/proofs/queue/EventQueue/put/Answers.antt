use Rattle.std.proofs.Common.{sym}
use Rattle.ap_queues.proofs.Moves.{puts, ends_in}
use Rattle.ap_queues.proofs.queue.EventQueue.put.Goals as goal

pub push_as-requires-clause-rule : goal.push_as-requires-clause-rule
push_as-requires-clause-rule g c = (puts _ _ _ _ c.args.operator.now.puts (sym c.args.operator.now.own), ends_in _ _ c.args.operator.now.puts)
