use Rattle.std.proofs.Common.{ap, sym, ◌∙◌}
use Rattle.ap_live.specs.Lives.{Live}
use Rattle.apd_run.proofs.Keeping.{same_loads}
use Rattle.apd_run.proofs.Operated.{told_crew}
use Rattle.apd_run.proofs.access.operator.LiveOperator.meet_at_loads.Goals as goal

pub meet-requires-clause-list : goal.meet-requires-clause-list
meet-requires-clause-list g c = c.self.invariant.list_is ∙ sym (ap (λ (a : Live). a.list.list) c.worker.invariant.ap_is)

pub invariant_of-self : goal.invariant_of-self
invariant_of-self g c = same_loads _ _ _ _ c.meet.ensures.same c.self.invariant

pub returns-clause-same : goal.returns-clause-same
returns-clause-same g c = told_crew g.F.Files.held _ _ _ c.self.view_is c.meet.ensures.same
