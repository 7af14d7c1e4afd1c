use Rattle.ap_core.specs.Handles.{rules, reading}
use Rattle.ap_core.proofs.Handling.{silently_told}
use Rattle.ap_core.proofs.FrameLaws.{unread_so}
use Rattle.ap_core.proofs.receive.receive.Goals as goal

pub returns-in_ok-outs-in-Err-clause-step : goal.returns-in_ok-outs-in-Err-clause-step
returns-in_ok-outs-in-Err-clause-step g c =
    silently_told g.J.Judge.gives _ _ _
    (unread_so (rules c.args.state.now.link.shard c.args.config.now) (reading c.args.state.now) c.args.bytes.now c.in-Err.fault _ c.in-Err.ensures.fault c.in_ok-outs-in-Err.ensures)
