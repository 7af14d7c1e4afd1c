use Rattle.ap_model.specs.AccessPoint.{InPlace}
use Rattle.ap_core.specs.AccessPoints.{rules_of}
use Rattle.uses_link.proofs.tests.refusals.results_at_all.Given as goal

abbrev pub invariant-loop-event : goal.invariant-loop-event
invariant-loop-event g l =
    (goal.iterator-loop-event g).can_next l.event-iterator ×
    (goal.iterator-loop-event g).is_finite l.event-iterator ×
    InPlace (rules_of l.shards)
