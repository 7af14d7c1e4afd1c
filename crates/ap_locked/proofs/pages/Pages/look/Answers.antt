use Rattle.std.proofs.Common.{subst}
use Rattle.ap_locked.specs.Accounts.{Account, ArePowers}
use Rattle.ap_locked.proofs.pages.Pages.look.Goals as goal

pub returns-clause-powers : goal.returns-clause-powers
returns-clause-powers g c = subst (λ (a : Account). ArePowers a.pages) c.self.view_is c.self.invariant.2
