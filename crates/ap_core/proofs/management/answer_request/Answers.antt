use Rattle.std.proofs.Common.{◌≡◌, ◌≢◌, ℕ, Some, [], ◌∷◌, sym, ◌∙◌, ap, subst, arith}
use Rattle.std.proofs.lemmas.Bool.Decides.{nat_tests}
use Rattle.assoc.specs.declared.standing.Known.TheVariants.{Associated}
use Rattle.assoc.specs.Standings.{IsFree, standing}
use Rattle.ap_model.specs.Changes.{Moves}
use Rattle.ap_model.specs.Associations.{unsuited, elsewhere, exhausted, association_answer}
use Rattle.ap_core.specs.Handles.{rules, reading, request}
use Rattle.ap_core.proofs.Handling.{silently, asking, settled}
use Rattle.ap_core.proofs.AssociationLaws.{admitted_by, refused_by}
use Rattle.ap_core.proofs.management.answer_request.Goals as goal
use Rattle.hooks.specs.Contexts.{association_context}
use Rattle.assoc.specs.Standings.{Linked}
use Rattle.ap_core.specs.declared.management.Asked.{Asked}
use Rattle.ap_core.specs.Handles.{IsRead}

-- the hook's context
told : (a : Asked) (link : Linked) → IsRead link a.came.now → association_context a.came.now.frame.sender a.came.now.standing a.capability a.listen_interval a.again
    ≡ association_context a.came.now.frame.sender (standing link a.came.now.frame.sender) a.capability a.listen_interval a.again
told a link read = ap (λ s. association_context a.came.now.frame.sender s a.capability a.listen_interval a.again) read.standing

pub returns-then-not-suits-clause-step : goal.returns-then-not-suits-clause-step
returns-then-not-suits-clause-step g c =
    silently g.J.Judge.gives _ _ _
    (unsuited (λ s. let t = c.suits.ensures.1 s in let f = c.if-not-suits.true in cc)
    (settled _ _ _ (c.refuse.ensures c.args.state.now.link.shard)))

pub returns-then-not-names-clause-step : goal.returns-then-not-names-clause-step
returns-then-not-names-clause-step g c =
    silently g.J.Judge.gives _ _ _
    (elsewhere (c.suits.ensures.0 c.if-not-suits.false) (λ n. let t = (c.names.ensures c.args.state.now.link.shard).1 n in let f = c.if-not-names.true in cc)
    (settled _ _ _ (c.refuse-then-not-names.ensures c.args.state.now.link.shard)))

pub returns-in_default-clause-step : goal.returns-in_default-clause-step
returns-in_default-clause-step g c =
    silently g.J.Judge.gives _ _ _
    (exhausted (c.suits.ensures.0 c.if-not-suits.false) ((c.names.ensures c.args.state.now.link.shard).0 c.if-not-names.false)
    (subst (λ t. (n : ℕ) → IsFree c.args.state.now.link.shard (standing c.args.state.now.link) t n → ⊥) c.sender-station.ensures c.in_default.ensures)
    (settled _ _ _ (c.refuse-in_default.ensures c.args.state.now.link.shard)))

pub returns-then-not-is_success-clause-step : goal.returns-then-not-is_success-clause-step
returns-then-not-is_success-clause-step g c =
    let e = c.is_success.ensures in
    let f = c.if-not-is_success.true in
    let ne : c.assoc_verdict-status.result ≢ 0 = grind (arith, nat_tests) in
    asking g.J.Judge.gives _ _ _ _ _ c.judge-verdict.result c.judge-verdict.ensures
    (refused_by (rules c.args.state.now.link.shard c.args.config.now) (reading c.args.state.now) (reading c.args.state.now) c.args.asked.now.came.now.frame.sender (request c.args.asked.now) _ _ c.judge-verdict.result c.in-Some.granted _
    (subst (λ t. IsFree c.args.state.now.link.shard (standing c.args.state.now.link) t c.in-Some.granted) c.sender-station.ensures c.in-Some.ensures.free)
    (c.suits.ensures.0 c.if-not-suits.false) ((c.names.ensures c.args.state.now.link.shard).0 c.if-not-names.false)
    c.requires.came.spelled (c.context_of-context.ensures ∙ told c.args.asked.now c.args.state.now.link c.requires.came) (subst (λ s. s ≢ 0) c.assoc_verdict-status.ensures ne)
    (c.refuse-then-not-is_success.ensures c.args.state.now.link.shard
    ∙ ap (λ s. association_answer (rules c.args.state.now.link.shard c.args.config.now) c.args.asked.now.came.now.frame.sender c.args.asked.now.again s 0 ∷ []) c.assoc_verdict-status.ensures))

pub returns-clause-step : goal.returns-clause-step
returns-clause-step g c =
    let e = c.is_success.ensures in
    let f = c.if-not-is_success.false in
    let z : c.assoc_verdict-status.result ≡ 0 = grind (arith, nat_tests) in
    asking g.J.Judge.gives _ _ _ _ _ c.judge-verdict.result c.judge-verdict.ensures
    (admitted_by (rules c.args.state.now.link.shard c.args.config.now) (reading c.args.state.now) (reading c.associate.new.state) c.args.asked.now.came.now.frame.sender (request c.args.asked.now) _ _ c.judge-verdict.result c.in-Some.granted _
    (subst (λ t. IsFree c.args.state.now.link.shard (standing c.args.state.now.link) t c.in-Some.granted) c.sender-station.ensures c.in-Some.ensures.free)
    (c.suits.ensures.0 c.if-not-suits.false) ((c.names.ensures c.args.state.now.link.shard).0 c.if-not-names.false)
    c.requires.came.spelled (c.context_of-context.ensures ∙ told c.args.asked.now c.args.state.now.link c.requires.came) (sym c.assoc_verdict-status.ensures ∙ z)
    (c.send.ensures ∙ ap (λ e. e ∷ []) (c.response-answer.ensures.is c.args.state.now.link.shard)
    ∙ ap (λ s. association_answer (rules c.args.state.now.link.shard c.args.config.now) c.args.asked.now.came.now.frame.sender c.args.asked.now.again s c.granted-aid.result ∷ []) z
    ∙ ap (λ n. association_answer (rules c.args.state.now.link.shard c.args.config.now) c.args.asked.now.came.now.frame.sender c.args.asked.now.again 0 n ∷ []) c.granted-aid.ensures)
    (subst (λ t. Moves (reading c.args.state.now) t (Some (Associated c.in-Some.granted)) (reading c.associate.new.state)) c.sender-station.ensures c.associate.ensures.moves))
