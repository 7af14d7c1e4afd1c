use Rattle.std.proofs.Common.{◌∙◌, ap, sym, subst, List}
use mathlib.Core.List.{IsPrefix}
use Rattle.ap_locked.specs.Accounts.{Account, AreMade}
use Rattle.ap_locked.specs.Pages.{Signed}
use Rattle.ap_locked.proofs.Signing.{made_longer}
use Rattle.ap_locked.proofs.pages.Pages.follow.Goals as goal

pub invariant_of-self : goal.invariant_of-self
invariant_of-self g c =
    let pages = c.self.inside.pages in
    let journal = c.args.journal.now.entries in
    let pre : IsPrefix c.self.inside.seen.entries journal = subst (λ (a : Account). IsPrefix a.seen journal) (sym c.self.view_is) c.requires.begins in (
      ap (λ k. k.journal) c.again.ensures ∙ c.requires.named,
      subst (λ (es : List Signed). AreMade es pages) (sym (ap (λ k. k.entries) c.again.ensures)) (made_longer pages c.self.inside.seen.entries journal pre c.self.invariant.1),
      c.self.invariant.2,
      c.self.invariant.3,
      c.self.invariant.4,
    )
