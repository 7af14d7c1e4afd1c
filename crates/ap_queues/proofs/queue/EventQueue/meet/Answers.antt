use Rattle.std.proofs.Common.{rules, ap}
use Rattle.ap_queues.proofs.Moves.{meets, learns, parts, spares}
use Rattle.ap_queues.proofs.queue.EventQueue.meet.Goals as goal

pub another-spare-requires-clause-rule : goal.another-spare-requires-clause-rule
another-spare-requires-clause-rule c = spares _ _

pub absorb-requires-clause-rule : goal.absorb-requires-clause-rule
absorb-requires-clause-rule c = meets _ _ _ _ (search rules) (search rules)

pub learn_as-requires-clause-rule : goal.learn_as-requires-clause-rule
learn_as-requires-clause-rule c = learns _ _ (ap (λ v. v.takes) c.absorb.ensures.rule) (ap (λ v. v.puts) c.absorb.ensures.rule)

pub another-requires-clause-rule : goal.another-requires-clause-rule
another-requires-clause-rule c = parts _ _ (search rules) (search rules)
