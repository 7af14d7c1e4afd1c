use Rattle.std.proofs.Common.{◌≡◌, ◌∷◌, [], ◌<◌, ◌∙◌, ap, sym, subst, List}
use Rattle.ap_model.specs.Runs.{Entry}
use Rattle.ap_model.specs.Readings.{Rules}
use Rattle.ap_books.specs.Counts.{counts_in}
use Rattle.ap_core.specs.Handles.{rules}
use Rattle.ap_locked.specs.Pages.{Page, Signed, entries_of, first_page}
use Rattle.ap_locked.specs.Tokens.{AreHandled, IsAmong}
use Rattle.ap_locked.proofs.Among.{none_among}
use Rattle.ap_locked.proofs.Signing.{ends_none}
use Rattle.ap_locked.proofs.token.ShardToken.split_off.Goals as goal

pub invariant_of-result : goal.invariant_of-result
invariant_of-result g c =
    let rs : Rules = rules g.row.SHARD g.B.Journals.config in
    let page = c.begin.new.self in
    let seen = sym c.begin.ensures.seen in (
      subst (λ (ps : List Page). ps ≡ first_page ps ∷ []) (sym c.begin.ensures.pages) c.requires.one,
      record {
        some = subst (λ n. 0 < n) (sym c.split_off.ensures.parts) c.requires.some;
        handled = subst (λ (es : List Signed). AreHandled rs (entries_of es)) seen c.self.invariant.1.handled;
        among = subst (λ (own : List Entry). IsAmong own (entries_of page.seen)) (sym c.new.ensures) (none_among (entries_of page.seen));
        counted = c.split_off.ensures.none ∙ ap counts_in (sym c.new.ensures);
        on_page = ends_none (first_page page.pages).made c.new.result c.new.ensures;
      },
    )
