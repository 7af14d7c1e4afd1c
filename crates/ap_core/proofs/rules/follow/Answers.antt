use Rattle.std.proofs.Common.{sym, ap, ◌∙◌}
use Rattle.mac_frame.specs.Spelling.{content_subtype}
use Rattle.assoc.specs.Classes.{class_of}
use Rattle.ap_core.specs.Handles.{rules, reading}
use Rattle.ap_core.proofs.Handling.{silently_told}
use Rattle.ap_core.proofs.DropLaws.{management_told}
use Rattle.ap_core.proofs.rules.follow.Goals as goal

pub returns-in_ok-outs-in-Management-clause-step : goal.returns-in_ok-outs-in-Management-clause-step
returns-in_ok-outs-in-Management-clause-step g c =
    let e = sym c.content.ensures ∙ c.in-Management.is in
    rw e (management_told g.J.Judge.gives (rules c.args.state.now.link.shard c.args.setting.config.now) (reading c.args.state.now) _ c.args.came.frame c.in-Management.body _ _ _ c.in_ok-outs-in-Management.ensures.step)

pub returns-in_ok-outs-in-Control-clause-step : goal.returns-in_ok-outs-in-Control-clause-step
returns-in_ok-outs-in-Control-clause-step g c =
    let e = sym c.content.ensures ∙ c.in-Control.is in
    rw e (silently_told g.J.Judge.gives _ _ _ (c.in_ok-outs-in-Control.ensures.step c.args.came.frame (sym c.sender.ensures)))

pub returns-in_ok-outcome-in-Data-clause-step : goal.returns-in_ok-outcome-in-Data-clause-step
returns-in_ok-outcome-in-Data-clause-step g c =
    let e = sym c.content.ensures ∙ c.in-Data.is in
    rw e (c.in_ok-outcome-in-Data.ensures.step (rules c.args.state.now.link.shard c.args.setting.config.now))

pub on_management-requires-clause-class : goal.on_management-requires-clause-class
on_management-requires-clause-class g c = c.requires.came.class ∙ ap (λ t. class_of (content_subtype t)) (sym c.content.ensures ∙ c.in-Management.is)
