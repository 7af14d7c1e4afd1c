use Rattle.std.proofs.Common.{sym, ◌∙◌, ap}
use Rattle.ap_journal.proofs.Turning.{turn_moves}
use Rattle.ap_journal.proofs.author.next_turn.Goals as goal

pub compare_exchange-found-requires : goal.compare_exchange-found-requires
compare_exchange-found-requires g c =
    let word = c.requires.word in
    let same = ap (λ s. s.book) c.again-seen.ensures ∙ sym (ap (λ w. w.book) word) in
    let offer = c.plain-offer.ensures in
    let pen = c.no_pen-pen.ensures in (
      ap (λ w. w.tracked) word,
      same,
      pen.0 ∙ same,
      offer.0,
      rw (ap (λ w. w.key) word, pen.1, offer.3) (turn_moves c.again-seen.result.log c.plain-offer.result.ask c.args.last),
    )
