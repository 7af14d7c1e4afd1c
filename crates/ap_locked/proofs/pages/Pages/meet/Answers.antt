use Rattle.std.proofs.Common.{◌∙◌, ap, sym, subst, List}
use Rattle.ap_locked.specs.Accounts.{AreMade}
use Rattle.ap_locked.specs.Pages.{Signed}
use Rattle.ap_locked.proofs.Signing.{made_longer}
use Rattle.ap_locked.proofs.pages.Pages.meet.Goals as goal

pub invariant_of-self : goal.invariant_of-self
invariant_of-self g c =
    let was = c.self.invariant in
    let pages = c.self.inside.pages in
    let longer = c.longer-seen.ensures.this in (
      ap (λ k. k.journal) c.again.ensures ∙ (longer.same_journal ∙ was.0),
      subst (λ (es : List Signed). AreMade es pages) (sym (ap (λ k. k.entries) c.again.ensures)) (made_longer pages c.self.inside.seen.entries c.longer-seen.result.entries longer.has_all was.1),
      was.2,
      was.3,
      was.4,
    )

pub invariant_of-other : goal.invariant_of-other
invariant_of-other g c =
    let was = c.other.invariant in
    let longer = c.longer-seen.ensures.that in (
      longer.same_journal ∙ was.0,
      made_longer c.other.inside.pages c.other.inside.seen.entries c.longer-seen.result.entries longer.has_all was.1,
      was.2,
      was.3,
      was.4,
    )
