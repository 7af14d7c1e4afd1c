use Rattle.std.proofs.Common.{◌≡◌, [], ◌∷◌, ◌∙◌, ap}
use Rattle.mac_frame.specs.Spelling.{content_subtype}
use Rattle.assoc.specs.Classes.{class_of, class_answer}
use Rattle.assoc.specs.Standings.{standing}
use Rattle.assoc.specs.declared.class.ClassAnswer.TheVariants.{Permitted, Deauthenticate, Disassociate}
use Rattle.mac_frame.specs.Frames.{sent_management}
use Rattle.mac_frame.specs.declared.content.Management.TheVariants as management
use Rattle.ap_model.specs.Changes.{sends}
use Rattle.ap_model.specs.Steps.{deauthentication, disassociation}
use Rattle.ap_core.specs.Handles.{rules, reading}
use Rattle.ap_core.proofs.Handling.{silently_told, settled}
use Rattle.ap_core.proofs.FrameLaws.{told_checked}
use Rattle.ap_core.proofs.receive.check.Goals as goal

pub returns-in_ok-outcome-in-Permitted-clause-step : goal.returns-in_ok-outcome-in-Permitted-clause-step
returns-in_ok-outcome-in-Permitted-clause-step g c =
    let e : class_answer (standing c.args.state.now.link c.args.came.frame.sender) (class_of (content_subtype c.args.came.frame.content)) ≡ Permitted =
    (let a = c.class_check.ensures in let b = c.requires.came.standing in let d = c.requires.came.class in let i = c.in-Permitted.is in cc) in
    told_checked g.J.Judge.gives (rules c.args.state.now.link.shard c.args.setting.config.now) (reading c.args.state.now) _ c.args.came.frame _ _ _ _ Permitted e c.in_ok-outcome-in-Permitted.ensures.step

pub returns-in_ok-room-in-Deauthenticate-clause-step : goal.returns-in_ok-room-in-Deauthenticate-clause-step
returns-in_ok-room-in-Deauthenticate-clause-step g c =
    let e : class_answer (standing c.args.state.now.link c.args.came.frame.sender) (class_of (content_subtype c.args.came.frame.content)) ≡ Deauthenticate c.in-Deauthenticate.reason =
    (let a = c.class_check.ensures in let b = c.requires.came.standing in let d = c.requires.came.class in let i = c.in-Deauthenticate.is in cc) in
    told_checked g.J.Judge.gives (rules c.args.state.now.link.shard c.args.setting.config.now) (reading c.args.state.now) _ c.args.came.frame _ _ _ _ (Deauthenticate c.in-Deauthenticate.reason) e
    (silently_told g.J.Judge.gives _ _ _ (settled (deauthentication (rules c.args.state.now.link.shard c.args.setting.config.now) c.args.came.frame.sender c.in-Deauthenticate.reason) _ _
    (c.send.ensures ∙ ap (λ m. sends m ∷ []) c.deauthentication-answer.ensures
    ∙ ap (λ t. sends (sent_management t c.bssid.result (management.Deauthentication c.in-Deauthenticate.reason) []) ∷ []) c.sender-station.ensures
    ∙ ap (λ b. sends (sent_management c.args.came.frame.sender b (management.Deauthentication c.in-Deauthenticate.reason) []) ∷ []) c.bssid.ensures)))

pub returns-in_ok-room-in-Disassociate-clause-step : goal.returns-in_ok-room-in-Disassociate-clause-step
returns-in_ok-room-in-Disassociate-clause-step g c =
    let e : class_answer (standing c.args.state.now.link c.args.came.frame.sender) (class_of (content_subtype c.args.came.frame.content)) ≡ Disassociate c.in-Disassociate.reason =
    (let a = c.class_check.ensures in let b = c.requires.came.standing in let d = c.requires.came.class in let i = c.in-Disassociate.is in cc) in
    told_checked g.J.Judge.gives (rules c.args.state.now.link.shard c.args.setting.config.now) (reading c.args.state.now) _ c.args.came.frame _ _ _ _ (Disassociate c.in-Disassociate.reason) e
    (silently_told g.J.Judge.gives _ _ _ (settled (disassociation (rules c.args.state.now.link.shard c.args.setting.config.now) c.args.came.frame.sender c.in-Disassociate.reason) _ _
    (c.send-in-Disassociate.ensures ∙ ap (λ m. sends m ∷ []) c.disassociation-answer.ensures
    ∙ ap (λ t. sends (sent_management t c.bssid-in-Disassociate.result (management.Disassociation c.in-Disassociate.reason) []) ∷ []) c.sender-station.ensures
    ∙ ap (λ b. sends (sent_management c.args.came.frame.sender b (management.Disassociation c.in-Disassociate.reason) []) ∷ []) c.bssid-in-Disassociate.ensures)))
