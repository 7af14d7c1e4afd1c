use Rattle.std.proofs.Common.{rules, ap, ◌∙◌}
use Rattle.ap_queues.proofs.Moves.{meets, gathers, learns_all, none_left, releases, parts, spares}
use Rattle.ap_queues.proofs.queue.EventQueue.meet_alone.Goals as goal

pub another-spare-requires-clause-rule : goal.another-spare-requires-clause-rule
another-spare-requires-clause-rule c = spares _ _

pub another-spare_maker-requires-clause-rule : goal.another-spare_maker-requires-clause-rule
another-spare_maker-requires-clause-rule c = spares _ _

pub absorb-requires-clause-rule : goal.absorb-requires-clause-rule
absorb-requires-clause-rule c = meets _ _ _ _ (search rules) (search rules)

pub absorb-requires-2-clause-rule : goal.absorb-requires-2-clause-rule
absorb-requires-2-clause-rule c = gathers _ _ _ _ (search rules)

pub learn_as-requires-clause-rule : goal.learn_as-requires-clause-rule
learn_as-requires-clause-rule c =
    learns_all _ _ (ap (λ v. v.takes) c.absorb-2.ensures.rule ∙ ap (λ v. v.takes) c.absorb.ensures.rule) (ap (λ v. v.puts) c.absorb-2.ensures.rule ∙ ap (λ v. v.puts) c.absorb.ensures.rule)
    (ap (λ v. v.makes) c.absorb-2.ensures.rule) (ap (λ v. v.made) c.absorb-2.ensures.rule ∙ search rules)

pub is_empty_as-is_empty-requires-clause-rule : goal.is_empty_as-is_empty-requires-clause-rule
is_empty_as-is_empty-requires-clause-rule c =
    let same = c.learn_as.ensures.queue.1 in
    learns_all _ _ (ap (λ v. v.takes) same ∙ (ap (λ v. v.takes) c.absorb-2.ensures.rule ∙ ap (λ v. v.takes) c.absorb.ensures.rule)) (ap (λ v. v.puts) same ∙ (ap (λ v. v.puts) c.absorb-2.ensures.rule ∙ ap (λ v. v.puts) c.absorb.ensures.rule))
    (ap (λ v. v.makes) same ∙ ap (λ v. v.makes) c.absorb-2.ensures.rule) (ap (λ v. v.made) same ∙ (ap (λ v. v.made) c.absorb-2.ensures.rule ∙ search rules))

pub another-requires-clause-rule : goal.another-requires-clause-rule
another-requires-clause-rule c = releases _ _ (search rules)

pub another-requires-2-clause-rule : goal.another-requires-2-clause-rule
another-requires-2-clause-rule c = parts _ _ (search rules) (search rules)
