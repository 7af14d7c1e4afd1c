use Rattle.std.proofs.Common.{List, ℕ, [], sym, subst}
use Rattle.ap_model.specs.Agreements.{RequestComes}
use Rattle.ap_core.specs.Handles.{rules, reading}
use Rattle.ap_core.proofs.rules.on_control.Goals as goal

pub returns-in_ok-outs-in-BlockAckReq-clause-step : goal.returns-in_ok-outs-in-BlockAckReq-clause-step
returns-in_ok-outs-in-BlockAckReq-clause-step c = λ f e.
    rw c.in-BlockAckReq.is (subst (λ (a : List ℕ). RequestComes (rules c.args.state.now.link.shard c.args.setting.config.now) (reading c.args.state.now) a c.in-BlockAckReq.tid c.in-BlockAckReq.start [] c.in_ok-outs-in-BlockAckReq.outs.items (reading c.on_request.new.state)) (sym e) c.in_ok-outs-in-BlockAckReq.ensures.step)
