use Rattle.ap_core.specs.Handles.{reading}
use Rattle.ap_core.proofs.Handling.{silently}
use Rattle.ap_core.proofs.AssociationLaws.{departed}
use Rattle.ap_core.proofs.rules.on_class_two.Goals as goal

pub returns-in_ok-outs-in-AssociationRequest-clause-step : goal.returns-in_ok-outs-in-AssociationRequest-clause-step
returns-in_ok-outs-in-AssociationRequest-clause-step g c = rw c.in-AssociationRequest.is c.in_ok-outs-in-AssociationRequest.ensures.step

pub returns-in_ok-outs-in-ReassociationRequest-clause-step : goal.returns-in_ok-outs-in-ReassociationRequest-clause-step
returns-in_ok-outs-in-ReassociationRequest-clause-step g c = rw c.in-ReassociationRequest.is c.in_ok-outs-in-ReassociationRequest.ensures.step

pub returns-in-Disassociation-clause-step : goal.returns-in-Disassociation-clause-step
returns-in-Disassociation-clause-step g c =
    rw c.in-Disassociation.is (silently g.J.Judge.gives _ _ _
    (departed (reading c.args.state.now) (reading c.disassociate.new.state) c.args.came.now.frame.sender _ c.new.result.items c.new.ensures.items (rw c.sender.ensures at c.disassociate.ensures.moves)))
