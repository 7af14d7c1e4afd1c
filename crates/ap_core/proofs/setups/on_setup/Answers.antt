use Rattle.ap_model.specs.Agreements.{delayed}
use Rattle.ap_core.proofs.Handling.{silently, settled}
use Rattle.ap_core.proofs.setups.on_setup.Goals as goal

pub returns-in_ok-outs-in-Delayed-clause-step : goal.returns-in_ok-outs-in-Delayed-clause-step
returns-in_ok-outs-in-Delayed-clause-step g c =
    silently g.J.Judge.gives _ _ _
    (delayed c.in-Delayed.is (settled _ _ _ (c.in_ok-outs-in-Delayed.ensures c.args.state.now.link.shard)))
