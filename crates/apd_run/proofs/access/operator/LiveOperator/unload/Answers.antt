use Rattle.std.proofs.Common.{ap, refl}
use Rattle.versions.specs.Lists.{Beginning}
use Rattle.apd_run.proofs.Budgeting.{loaded_budgets, same_budgets}
use Rattle.apd_run.proofs.Keeping.{other_loads}
use Rattle.apd_run.proofs.Operated.{keep_does, unload_does, works}
use Rattle.apd_run.proofs.access.operator.LiveOperator.unload.Goals as goal

pub invariant_of-self : goal.invariant_of-self
invariant_of-self g c =
    other_loads _ _ _ _ _ _ (ap (λ (b : Beginning). b.list) c.in-Ok.ensures.unloaded)
    (rw c.put.ensures.is (loaded_budgets _ _ _ _ _ _ refl c.in-Ok.ensures.unloaded c.self.invariant.in_force)) c.self.invariant

pub invariant_of-self-in-Err : goal.invariant_of-self-in-Err
invariant_of-self-in-Err g c =
    other_loads _ _ _ _ _ _ (ap (λ (b : Beginning). b.list) c.in-Err.ensures.refused) (same_budgets _ _ _ c.in-Err.ensures.refused c.self.invariant.in_force) c.self.invariant

pub returns-in-Ok-clause-works : goal.returns-in-Ok-clause-works
returns-in-Ok-clause-works g c = works g.F.Files.held _ _ _ c.self.view_is

pub returns-in-Ok-clause-does : goal.returns-in-Ok-clause-does
returns-in-Ok-clause-does g c = unload_does g.F.Files.held _ _ _ _ c.self.view_is c.in-Ok.ensures.unloaded

pub returns-in-Err-clause-works : goal.returns-in-Err-clause-works
returns-in-Err-clause-works g c = works g.F.Files.held _ _ _ c.self.view_is

pub returns-in-Err-clause-does : goal.returns-in-Err-clause-does
returns-in-Err-clause-does g c = keep_does g.F.Files.held _ _ _ _ c.self.view_is c.in-Err.ensures.refused
