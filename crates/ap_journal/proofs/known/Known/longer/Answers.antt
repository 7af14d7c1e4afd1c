use Rattle.std.proofs.Common.{◌≤◌, ◌∙◌, ap, sym, subst, arith, length, List}
use mathlib.Core.List.{IsPrefix}
use Rattle.ap_journal.proofs.Prefixes.{begins_from}
use Rattle.ap_journal.proofs.known.Known.longer.Goals as goal

pub returns-then-self-other-clause-this : goal.returns-then-self-other-clause-this
returns-then-self-other-clause-this g c =
    let whole = c.learn.new.self.log in
    let this : IsPrefix c.self.inside.seen.log whole = subst (λ (l : List g.row.E.Denot). IsPrefix l whole) (ap (λ s. s.log) c.again-both.ensures) c.learn.ensures.2 in
    let less : length c.self.inside.seen.log ≤ length c.other.inside.seen.log = omega (arith, c.self.invariant, c.other.invariant) in
    begins_from _ _ _ _ c.self.inside.seen.log c.other.inside.seen.log whole c.self.view_is (c.other.view_is ∙ sym c.again.ensures)
    (ap (λ k. k.journal) c.again.ensures ∙ c.requires) this c.learn.ensures.3 less

pub returns-clause-that : goal.returns-clause-that
returns-clause-that g c =
    let whole = c.learn.new.self.log in
    let this : IsPrefix c.self.inside.seen.log whole = subst (λ (l : List g.row.E.Denot). IsPrefix l whole) (ap (λ s. s.log) c.again-both.ensures) c.learn.ensures.2 in
    let less : length c.other.inside.seen.log ≤ length c.self.inside.seen.log = omega (arith, c.self.invariant, c.other.invariant) in
    begins_from _ _ _ _ c.other.inside.seen.log c.self.inside.seen.log whole c.other.view_is (c.self.view_is ∙ sym c.again-else-self-other.ensures)
    (ap (λ k. k.journal) c.again-else-self-other.ensures ∙ sym c.requires) c.learn.ensures.3 this less
