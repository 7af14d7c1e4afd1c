use Rattle.ap_core.proofs.rules.on_class_three.Goals as goal

pub returns-in_ok-outs-in-AddbaRequest-clause-step : goal.returns-in_ok-outs-in-AddbaRequest-clause-step
returns-in_ok-outs-in-AddbaRequest-clause-step g c = rw c.in-AddbaRequest.is c.in_ok-outs-in-AddbaRequest.ensures.step
