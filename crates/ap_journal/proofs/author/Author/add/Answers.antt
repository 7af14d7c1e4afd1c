use Rattle.std.proofs.Common.{◌≡◌, ◌+◌, length, sym, ◌∙◌, ap, subst, Option, Some, IfSome}
use Rattle.logbook.specs.declared.tokens.Pen.{Pen}
use Rattle.ap_journal.specs.Rights.{IsTurn, turn_of}
use Rattle.ap_journal.proofs.Turning.{add_moves}
use Rattle.ap_journal.proofs.author.Author.add.Goals as goal

pub compare_exchange-requires : goal.compare_exchange-requires
compare_exchange-requires g c =
    let word = c.self.invariant.counts in
    let there : c.self.inside.turn ≡ Some c.in-Some.turn = sym c.take.ensures.value ∙ c.in-Some.is in
    let turn : IsTurn c.self.inside.word c.in-Some.turn = subst (λ (t : Option Pen). IfSome t (IsTurn c.self.inside.word)) there c.self.invariant.is in
    let own : c.known.inside.seen.book ≡ c.self.inside.word.book =
    ap (λ k. k.journal) c.known.view_is ∙ (sym c.requires.same_journal ∙ sym (ap (λ a. a.journal) c.self.view_is)) in
    let next : Some c.in-Some.turn.nib.key ≡ Some (length c.known.inside.seen.log + 1) =
    sym (ap turn_of there) ∙ (ap (λ a. a.turn) c.self.view_is ∙ (c.requires.next ∙ ap (λ k. Some (length k.entries + 1)) (sym c.known.view_is))) in
    let offer = c.plain-offer.ensures in (
      ap (λ w. w.tracked) word,
      own,
      turn.same_journal,
      offer.0,
      rw (ap (λ w. w.key) word, offer.3) (add_moves c.known.inside.seen.log c.plain-offer.result.ask c.in-Some.turn.nib turn.right (cc next)),
    )
