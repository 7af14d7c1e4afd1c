use Rattle.std.proofs.Common.{subst}
use Rattle.ap_books.specs.Holdings.{Holding}
use Rattle.ap_locked.specs.Tokens.{AreTheJournal, rules}
use Rattle.ap_shards.specs.Pages.{AreTheJournals, EightPages}
use Rattle.ap_shards.proofs.Results.{first_ok, on_ok, second_ok}
use Rattle.ap_shards.proofs.shards.Shards.close.Goals as goal

pub returns-clause-entries : goal.returns-clause-entries
returns-clause-entries g c =
    let config = g.B.Journals.config in
    let h = c.all.inside in
    let p = c.pages.inside in
    let done = c.in_ok-_done._done in
    let low = c.in_ok-_done.ensures.first in
    let high = c.in_ok-_done.ensures.second in
    let first = first_ok c.both-first.result c.both-low.result done.0 low c.both-low.ensures.first in
    let second = second_ok c.both-second.result c.both-low.result done.0 low c.both-low.ensures.second in
    let third = first_ok c.both-third.result c.both-high.result done.1 high c.both-high.ensures.first in
    let fourth = second_ok c.both-fourth.result c.both-high.result done.1 high c.both-high.ensures.second in
    let of0 = first_ok c.reconcile_under-of0.result c.both-first.result done.0.0 first c.both-first.ensures.first in
    let of1 = second_ok c.reconcile_under-of1.result c.both-first.result done.0.0 first c.both-first.ensures.second in
    let of2 = first_ok c.reconcile_under-of2.result c.both-second.result done.0.1 second c.both-second.ensures.first in
    let of3 = second_ok c.reconcile_under-of3.result c.both-second.result done.0.1 second c.both-second.ensures.second in
    let of4 = first_ok c.reconcile_under-of4.result c.both-third.result done.1.0 third c.both-third.ensures.first in
    let of5 = second_ok c.reconcile_under-of5.result c.both-third.result done.1.0 third c.both-third.ensures.second in
    let of6 = first_ok c.reconcile_under-of6.result c.both-fourth.result done.1.1 fourth c.both-fourth.ensures.first in
    let of7 = second_ok c.reconcile_under-of7.result c.both-fourth.result done.1.1 fourth c.both-fourth.ensures.second in
    let held : Holding = record { of0 = h.of0; of1 = h.of1; of2 = h.of2; of3 = h.of3; of4 = h.of4; of5 = h.of5; of6 = h.of6; of7 = h.of7 } in
    subst (λ (x : Holding). AreTheJournals config x c.args.pages.now) c.all.view_is (subst (λ (x : EightPages). AreTheJournals config held x) c.pages.view_is (
      on_ok (AreTheJournal (rules 0 config) h.of0 p.of0.pages) c.reconcile_under-of0.result done.0.0.0 of0 c.reconcile_under-of0.ensures.journal,
      on_ok (AreTheJournal (rules 1 config) h.of1 p.of1.pages) c.reconcile_under-of1.result done.0.0.1 of1 c.reconcile_under-of1.ensures.journal,
      on_ok (AreTheJournal (rules 2 config) h.of2 p.of2.pages) c.reconcile_under-of2.result done.0.1.0 of2 c.reconcile_under-of2.ensures.journal,
      on_ok (AreTheJournal (rules 3 config) h.of3 p.of3.pages) c.reconcile_under-of3.result done.0.1.1 of3 c.reconcile_under-of3.ensures.journal,
      on_ok (AreTheJournal (rules 4 config) h.of4 p.of4.pages) c.reconcile_under-of4.result done.1.0.0 of4 c.reconcile_under-of4.ensures.journal,
      on_ok (AreTheJournal (rules 5 config) h.of5 p.of5.pages) c.reconcile_under-of5.result done.1.0.1 of5 c.reconcile_under-of5.ensures.journal,
      on_ok (AreTheJournal (rules 6 config) h.of6 p.of6.pages) c.reconcile_under-of6.result done.1.1.0 of6 c.reconcile_under-of6.ensures.journal,
      on_ok (AreTheJournal (rules 7 config) h.of7 p.of7.pages) c.reconcile_under-of7.result done.1.1.1 of7 c.reconcile_under-of7.ensures.journal,
    ))
