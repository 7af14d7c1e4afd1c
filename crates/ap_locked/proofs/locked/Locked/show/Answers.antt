use Rattle.std.proofs.Common.{◌≡◌, ◌∷◌, [], ap, refl, sym, subst, List}
use mathlib.Core.List.{IsPrefix}
use Rattle.ap_core.specs.Handles.{rules}
use Rattle.ap_model.specs.Readings.{Rules}
use Rattle.ap_locked.specs.Kept.{Kept}
use Rattle.ap_locked.specs.Pages.{Page, Signed, entries_of, first_page}
use Rattle.ap_locked.specs.Tokens.{AreHandled, EndsWith, IsAmong, KeepsOwn, Token}
use Rattle.ap_locked.proofs.Among.{among_prefix}
use Rattle.ap_locked.proofs.Entering.{journal_handled}
use Rattle.ap_locked.proofs.Signing.{entries_prefix}
use Rattle.ap_locked.proofs.locked.Locked.show.Goals as goal

pub invariant_of-mine : goal.invariant_of-mine
invariant_of-mine g c =
    let rs : Rules = rules g.row.SHARD g.B.Journals.config in
    let journal = c.self.inside.journal.entries in
    let was : Kept = record { shard = c.self.inside.shard; journal = entries_of journal; counts = c.self.inside.books } in
    let seen = sym c.follow.ensures.seen in
    let pages = sym c.follow.ensures.pages in (
      subst (λ (ps : List Page). ps ≡ first_page ps ∷ []) pages c.mine.invariant.0,
      record {
        some = c.mine.invariant.1.some;
        handled = subst (λ (es : List Signed). AreHandled rs (entries_of es)) seen (journal_handled rs was c.self.invariant.2);
        among = subst (λ (es : List Signed). IsAmong c.mine.inside.own (entries_of es)) seen (among_prefix (entries_prefix c.mine.inside.pages.seen journal c.look.ensures.seen) c.mine.invariant.1.among);
        counted = c.mine.invariant.1.counted;
        on_page = subst (λ (ps : List Page). EndsWith (first_page ps).made c.mine.inside.own) pages c.mine.invariant.1.on_page;
      },
    )

pub returns-clause-keeps : goal.returns-clause-keeps
returns-clause-keeps g c =
    let seen = c.mine.inside.pages.seen in
    let now : Token = record { portion = c.mine.inside.shares; seen = entries_of c.follow.new.self.seen; own = c.mine.inside.own; page = first_page c.follow.new.self.pages } in
    let keeps : KeepsOwn (record { portion = c.mine.inside.shares; seen = entries_of seen; own = c.mine.inside.own; page = first_page c.mine.inside.pages.pages }) now = record {
      portion = refl;
      own = refl;
      page = ap first_page c.follow.ensures.pages;
      seen = subst (λ (es : List Signed). IsPrefix (entries_of seen) (entries_of es)) (sym c.follow.ensures.seen) (entries_prefix seen c.self.inside.journal.entries c.look.ensures.seen);
    } in
    subst (λ (t : Token). KeepsOwn t now) c.mine.view_is keeps
