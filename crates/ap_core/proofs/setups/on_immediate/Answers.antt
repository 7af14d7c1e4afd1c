use Rattle.std.proofs.Common.{◌≡◌, List, [], ◌∷◌, ◌++◌, sym, ap, subst, ◌∙◌}
use Rattle.assoc.specs.Standings.{standing}
use Rattle.ap_model.specs.declared.event.Out.{Out}
use Rattle.ap_model.specs.Agreements.{SetsUp}
use Rattle.ap_agreements.specs.Tables.{Kept, agreement_in}
use Rattle.ap_model.specs.Asks.{Handled}
use Rattle.ap_core.specs.Handles.{IsGranted, reading, rules, setup}
use Rattle.ap_core.proofs.Handling.{asking}
use Rattle.ap_core.proofs.SetupLaws.{declined_by, granted_by}
use Rattle.ap_core.proofs.setups.on_immediate.Goals as goal
use Rattle.hooks.specs.Contexts.{addba_context}
use Rattle.assoc.specs.Standings.{Linked}
use Rattle.ap_core.specs.declared.setups.SetupRequest.{SetupRequest}
use Rattle.ap_core.specs.Handles.{IsRead}

-- the hook's context
told : (r : SetupRequest) (link : Linked) → IsRead link r.came.now → addba_context r.came.now.frame.sender r.came.now.standing r.parameters.tid r.parameters.buffer_size r.timeout r.start
    ≡ addba_context r.came.now.frame.sender (standing link r.came.now.frame.sender) r.parameters.tid r.parameters.buffer_size r.timeout r.start
told r link read = ap (λ s. addba_context r.came.now.frame.sender s r.parameters.tid r.parameters.buffer_size r.timeout r.start) read.standing

pub returns-in-None-clause-step : goal.returns-in-None-clause-step
returns-in-None-clause-step g c =
    let own = rules c.args.state.now.link.shard c.args.setting.config.now in
    subst
    (λ (ks : List Kept).
    Handled g.J.Judge.gives
    (λ asks outs. SetsUp own (reading c.args.state.now) c.args.request.now.came.now.frame.sender (setup c.args.request.now) asks outs
    (record { standing = standing c.args.state.now.link; agreement = agreement_in ks; clock = c.args.state.now.clock }))
    c.args.judge.now c.push_reserved.new.self.items c.judge-verdict.new.self)
    (sym c.in_ok-reserve.ensures.kept)
    (asking g.J.Judge.gives _ _ _ _ _ c.judge-verdict.result c.judge-verdict.ensures
    (declined_by own (reading c.args.state.now) (reading c.args.state.now) c.args.request.now.came.now.frame.sender (setup c.args.request.now) _ _ c.judge-verdict.result _
    c.requires.immediate c.requires.came.spelled (c.context_of-context.ensures ∙ told c.args.request.now c.args.state.now.link c.requires.came) (sym c.addba_verdict.ensures.is ∙ c.in-None.is)
    (c.push_reserved.ensures.items ∙ ap (λ (t : List Out). t ++ c.send.result ∷ []) c.in_ok-outs.ensures.items
    ∙ ap (λ (x : Out). x ∷ []) (c.send.ensures ∙ c.answer-answer.ensures.is c.args.state.now.link.shard))))

pub returns-in-Some-clause-step : goal.returns-in-Some-clause-step
returns-in-Some-clause-step g c =
    let own = rules c.args.state.now.link.shard c.args.setting.config.now in
    asking g.J.Judge.gives _ _ _ _ _ c.judge-verdict.result c.judge-verdict.ensures
    (granted_by own (reading c.args.state.now) (reading c.grant-outs.new.state) c.args.request.now.came.now.frame.sender (setup c.args.request.now) _ _ c.judge-verdict.result _
    c.requires.immediate c.requires.came.spelled (c.context_of-context.ensures ∙ told c.args.request.now c.args.state.now.link c.requires.came) c.in-Some.size (sym c.addba_verdict.ensures.is ∙ c.in-Some.is)
    (subst
    (λ (ks : List Kept).
    IsGranted own (record { standing = standing c.args.state.now.link; agreement = agreement_in ks; clock = c.args.state.now.clock }) c.args.request.now.came.now.frame.sender
    (setup c.args.request.now) c.in-Some.size c.grant-outs.result.items (reading c.grant-outs.new.state))
    c.in_ok-reserve.ensures.kept c.grant-outs.ensures.step))
