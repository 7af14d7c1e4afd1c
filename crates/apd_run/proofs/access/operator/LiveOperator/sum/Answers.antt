use Rattle.std.proofs.Common.{ap, ◌∙◌}
use Rattle.ap_live.specs.Tokens.{Operator}
use Rattle.apd_run.proofs.Keeping.{other_token}
use Rattle.apd_run.proofs.Operated.{sum_does, sums_nothing, works}
use Rattle.apd_run.proofs.access.operator.LiveOperator.sum.Goals as goal

pub invariant_of-self : goal.invariant_of-self
invariant_of-self g c = other_token _ _ _ _ c.sum-value.ensures.own (ap (λ (o : Operator). o.shards) c.sum-value.ensures.same ∙ ap (λ (o : Operator). o.shards) c.deref_mut.ensures.value)
    (ap (λ (o : Operator). o.lines) c.sum-value.ensures.same ∙ ap (λ (o : Operator). o.lines) c.deref_mut.ensures.value) c.self.invariant

pub returns-clause-works : goal.returns-clause-works
returns-clause-works g c = works g.F.Files.held _ _ _ c.self.view_is

pub returns-clause-does : goal.returns-clause-does
returns-clause-does g c = sum_does g.F.Files.held _ _ c.sum-value.new.operator _ _ _ c.self.view_is c.deref_mut.ensures.value c.sum-value.ensures.same c.sum-value.ensures.made

pub returns-then-not-has_word-clause-does : goal.returns-then-not-has_word-clause-does
returns-then-not-has_word-clause-does g c = sums_nothing g.F.Files.held _ _ _ c.self.view_is (λ there. let h = c.if-not-has_word.ensures.1 there in absurd (cc))
