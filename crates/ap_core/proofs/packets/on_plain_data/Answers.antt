use Rattle.ap_core.specs.Handles.{reading}
use Rattle.ap_core.specs.DataFrames.{packet}
use Rattle.ap_core.proofs.Handling.{told_by}
use Rattle.ap_core.proofs.DataLaws.{delivered}
use Rattle.ap_core.proofs.packets.on_plain_data.Goals as goal

pub returns-clause-step : goal.returns-clause-step
returns-clause-step g c =
    told_by (λ asked j. delivered (reading c.args.state.now) (packet c.args.came) asked c.in_ok-outcome.outcome.outs.items c.requires.plain j) c.in_ok-outcome.ensures.step
