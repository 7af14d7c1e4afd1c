use Rattle.std.proofs.Common.{◌≡◌, ◌∷◌, ◌++◌, [], ◌∙◌, ap, sym, subst, List}
use Rattle.ap_model.specs.Runs.{Entry}
use Rattle.ap_locked.specs.Accounts.{Account, AreMade, ArePowers, Gains, IsMade, IsPower}
use Rattle.ap_locked.specs.Pages.{Page, Signed, first_page, on_page}
use Rattle.ap_locked.proofs.Signing.{made_last, mark_turned, of_one, one_page, size_turned}
use Rattle.ap_locked.proofs.pages.Pages.write.Goals as goal

pub invariant_of-self : goal.invariant_of-self
invariant_of-self g c =
    let was = c.self.invariant in
    let ps = c.self.inside.pages in
    let q : Page = first_page ps in
    let e : Entry = g.D.Describes.entry c.args.deed.now in
    let seen = c.self.inside.seen.entries in
    let journal = c.args.journal.now.entries in
    let last : Gains (record { seen = seen; pages = ps }) e journal = subst (λ (a : Account). Gains a e journal) (sym c.self.view_is) c.requires.last in
    let turned : c.add-2.new.self ≡ on_page q e ∷ [] = c.add-2.ensures ∙ ap (λ (l : List Page). l ++ on_page q e ∷ []) c.new-pages.ensures in
    let again : journal ≡ c.again.result.entries = sym (ap (λ k. k.entries) c.again.ensures) in
    let made : IsMade journal (on_page q e) =
    subst (λ (es : List Signed). IsMade es (on_page q e)) (sym last.is) (made_last q e seen last.before last.had_seen (of_one (IsMade seen) ps q last.one was.1)) in (
      ap (λ k. k.journal) c.again.ensures ∙ c.requires.named,
      subst (AreMade c.again.result.entries) (sym turned) (subst (λ (es : List Signed). AreMade es (on_page q e ∷ [])) again (one_page (IsMade journal) (on_page q e) made)),
      subst ArePowers (sym turned) (one_page IsPower (on_page q e) (of_one IsPower ps q last.one was.2)),
      size_turned _ _ _ _ ps c.add-2.new.self q e last.one turned was.3 c.add.ensures.parts c.add.ensures.amount,
      mark_turned _ _ ps c.add-2.new.self q e last.one turned was.4,
    )
