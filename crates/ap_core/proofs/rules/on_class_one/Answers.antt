use Rattle.std.proofs.Common.{sym}
use Rattle.ap_core.specs.Handles.{reading}
use Rattle.ap_core.proofs.AssociationLaws.{departed}
use Rattle.ap_core.proofs.rules.on_class_one.Goals as goal

pub returns-in_ok-outs-in-Authentication-clause-step : goal.returns-in_ok-outs-in-Authentication-clause-step
returns-in_ok-outs-in-Authentication-clause-step c = λ f e. rw c.in-Authentication.is (rw (sym e) at c.in_ok-outs-in-Authentication.ensures.step)

pub returns-in-Deauthentication-clause-step : goal.returns-in-Deauthentication-clause-step
returns-in-Deauthentication-clause-step c = λ f e.
    rw c.in-Deauthentication.is
    (departed (reading c.args.state.now) (reading c.deauthenticate.new.state) f.sender _ c.new.result.items c.new.ensures.items (rw (sym e) at c.deauthenticate.ensures.moves))
