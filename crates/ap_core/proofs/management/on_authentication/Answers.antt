use Rattle.std.proofs.Common.{◌≢◌, [], ◌∷◌, arith, ap, ◌∙◌}
use Rattle.std.proofs.lemmas.Bool.Decides.{nat_tests}
use Rattle.mac_frame.specs.Frames.{sent_management}
use Rattle.mac_frame.specs.declared.content.Management.TheVariants as management
use Rattle.ap_model.specs.Changes.{sends}
use Rattle.ap_model.specs.Associations.{refuses}
use Rattle.ap_core.proofs.Authentications.{accepted_when}
use Rattle.ap_core.proofs.Handling.{settled}
use Rattle.ap_core.proofs.management.on_authentication.Goals as goal

pub returns-then-not-is_success-clause-step : goal.returns-then-not-is_success-clause-step
returns-then-not-is_success-clause-step c =
    let e = c.is_success.ensures in
    let f = c.if-not-is_success.true in
    let ne : c.authentication_status-status.result ≢ 0 = grind (arith, nat_tests) in
    refuses c.authentication_status-status.result ne c.authentication_status-status.ensures
    (settled _ _ _ (c.send.ensures ∙ ap (λ m. sends m ∷ []) c.authentication-answer.ensures ∙ ap (λ b. sends (sent_management c.args.asker.station b (management.Authentication c.args.algorithm 2 c.authentication_status-status.result) []) ∷ []) c.bssid.ensures))

pub authenticate-requires : goal.authenticate-requires
authenticate-requires c =
    let e = c.is_success.ensures in
    let f = c.if-not-is_success.false in
    accepted_when c.authentication_status-status.ensures (grind (arith, nat_tests))
