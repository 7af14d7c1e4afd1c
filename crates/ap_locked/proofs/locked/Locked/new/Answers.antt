use Rattle.std.proofs.Common.{◌∙◌, ◌<◌, [], ap, length, sym, subst, List}
use Rattle.ap_model.specs.Readings.{Config, Readings, Rules}
use Rattle.ap_model.specs.Runs.{Entry, Run, rests, opening}
use Rattle.ap_core.specs.Handles.{rules}
use Rattle.ap_core.specs.Shards.{reads}
use Rattle.ap_books.specs.Counts.{Portion, counts_in}
use Rattle.ap_locked.specs.Pages.{Signed, entries_of, first_page}
use Rattle.ap_locked.specs.Tokens.{AreHandled, IsAmong}
use Rattle.ap_locked.proofs.Among.{none_among}
use Rattle.ap_locked.proofs.Handled.{none_handled}
use Rattle.ap_locked.proofs.Signing.{ends_none, one_first}
use Rattle.ap_locked.proofs.locked.Locked.new.Goals as goal

pub invariant_of-locked : goal.invariant_of-locked
invariant_of-locked g c =
    let rs : Rules = rules g.row.SHARD g.B.Journals.config in
    let shard = c.in_ok-shard.shard in
    let parts = c.into_parts-author.ensures in
    let empty = ap entries_of parts.empty in (
      parts.journal ∙ c.requires.named.journal_is,
      parts.author,
      record {
        rules = c.in_ok-shard.ensures.rules ∙ ap (λ (config : Config). rules g.row.SHARD config) c.requires.config;
        run = subst (λ (es : List Entry). Run rs opening es (reads shard)) (sym empty) (subst (λ (r : Readings). Run rs opening [] r) (sym c.in_ok-shard.ensures.opening) (rests opening));
        counted = c.open-books.ensures.none ∙ ap counts_in (sym empty);
      },
      c.open-page_books.ensures.none ∙ sym (ap length parts.empty),
    )

pub invariant_of-token : goal.invariant_of-token
invariant_of-token g c =
    let rs : Rules = rules g.row.SHARD g.B.Journals.config in
    let page = c.split_page.result in
    let own = c.new-2.ensures in
    let unseen = c.split_page.ensures.seen ∙ (c.open-page_books.ensures.seen ∙ c.into_parts-author.ensures.empty) in (
      one_first page.pages _ c.split_page.ensures.given,
      record {
        some = subst (λ (p : Portion). 0 < p.parts) (sym c.open-books.ensures.whole) c.requires.some;
        handled = subst (λ (es : List Signed). AreHandled rs (entries_of es)) (sym unseen) (none_handled rs);
        among = subst (λ (own : List Entry). IsAmong own (entries_of page.seen)) (sym own) (none_among (entries_of page.seen));
        counted = ap (λ p. p.counts) c.open-books.ensures.whole ∙ ap counts_in (sym own);
        on_page = ends_none (first_page page.pages).made c.new-2.result own;
      },
    )
