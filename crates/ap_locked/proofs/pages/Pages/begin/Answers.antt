use Rattle.std.proofs.Common.{◌≡◌, [], ◌∙◌, ap, sym, subst}
use Rattle.std.specs.List.{All}
use Rattle.ap_locked.specs.Accounts.{Account}
use Rattle.ap_locked.specs.Pages.{Page}
use Rattle.ap_locked.proofs.Signing.{made_empty}
use Rattle.ap_locked.proofs.pages.Pages.begin.Goals as goal

pub invariant_of-self : goal.invariant_of-self
invariant_of-self g c = (
  ap (λ k. k.journal) c.again.ensures ∙ c.other.invariant.0,
  made_empty c.self.inside.pages c.again.result.entries (subst (λ (a : Account). All (λ (p : Page). p.made ≡ []) a.pages) (sym c.self.view_is) c.requires),
  c.self.invariant.2,
  c.self.invariant.3,
  c.self.invariant.4,
)
