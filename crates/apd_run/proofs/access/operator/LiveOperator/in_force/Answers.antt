use Rattle.std.proofs.Common.{◌≡◌, map, subst}
use Rattle.std.specs.Result.{IfOk}
use Rattle.std.proofs.lemmas.Result.{IfOk-weaker}
use Rattle.versions.specs.Sets.{set_of}
use Rattle.apd_run.specs.Hands.{RunOperator}
use Rattle.apd_run.specs.InForce.{budget_shown, budgets_of}
use Rattle.apd_run.proofs.Budgeting.{rows_of_set}
use Rattle.apd_run.proofs.access.operator.LiveOperator.in_force.Goals as goal

pub returns-clause-are : goal.returns-clause-are
returns-clause-are g c =
    subst (λ (o : RunOperator _). IfOk c.rows.result (λ rows. map budget_shown rows.items ≡ budgets_of (set_of o.loads.loads))) c.self.view_is
    (IfOk-weaker c.rows.result _ _ (λ rows shown. rows_of_set c.self.inside.programs c.self.inside.loads.now.loads rows.items c.self.invariant.in_force shown) c.rows.ensures.show)
