use Rattle.std.proofs.Common.{List, ℕ, ◌≤◌, [], ◌∷◌, ◌++◌, ◌∙◌, ap, subst, arith}
use Rattle.mac_frame.specs.declared.content.Control.TheVariants as control
use Rattle.mac_frame.specs.Frames.{sent_control}
use Rattle.arrayvec.specs.ArrayVec.{array_vec_len}
use Rattle.assoc.specs.Standings.{standing}
use Rattle.blockack.specs.Reading.{numbers_held}
use Rattle.ap_agreements.specs.Tables.{Kept}
use Rattle.ap_model.specs.declared.event.Out.{Out}
use Rattle.ap_model.specs.Changes.{sends}
use Rattle.ap_model.specs.Agreements.{ups}
use Rattle.ap_core.specs.Handles.{rules}
use Rattle.ap_core.proofs.RequestLaws.{reported_from}
use Rattle.ap_core.proofs.requests.on_request.Goals as goal

pub request-first-requires-clause-inside : goal.request-first-requires-clause-inside
request-first-requires-clause-inside c = c.in-Some.ensures.place.inside

pub pass_up-requires-clause-room : goal.pass_up-requires-clause-room
pass_up-requires-clause-room c =
    let few =
    subst (λ (k : Kept). array_vec_len c.request-first.new.out ≤ numbers_held k.using.window) (c.in-Some.ensures.is c.in-Some.entry.now)
    (c.request-first.ensures.few c.in-Some.entry.now) in
    omega (arith, few, c.held.ensures.is, c.in_ok-outs-in-Some.ensures.exact, c.in_ok-outs-in-Some.ensures.len)

pub push_reserved-requires : goal.push_reserved-requires
push_reserved-requires c =
    let few =
    subst (λ (k : Kept). array_vec_len c.request-first.new.out ≤ numbers_held k.using.window) (c.in-Some.ensures.is c.in-Some.entry.now)
    (c.request-first.ensures.few c.in-Some.entry.now) in
    omega (arith, few, c.held.ensures.is, c.in_ok-outs-in-Some.ensures.exact, c.in_ok-outs-in-Some.ensures.len, c.pass_up.ensures.len, c.pass_up.ensures.capacity)

pub returns-in_ok-frame-in-Some-clause-step : goal.returns-in_ok-frame-in-Some-clause-step
returns-in_ok-frame-in-Some-clause-step c =
    let board = c.request-first.result in
    let passed = c.request-first.new.out.items in
    reported_from (rules c.args.state.now.link.shard c.args.setting.config.now) (standing c.args.state.now.link) c.args.state.now.agreements.kept c.request-first.new.self.kept c.args.state.now.clock c.args.station c.args.tid c.args.start
    c.in-Some.entry.now.using board c.push_reserved.new.self.items passed c.in-Some.ensures.agreed (c.request-first.ensures.uses c.args.station c.args.tid c.in-Some.ensures.place)
    (c.push_reserved.ensures.items
    ∙ ap (λ (t : List Out). t ++ c.send.result ∷ []) (c.pass_up.ensures.outs ∙ ap (λ (t : List Out). t ++ ups c.args.station c.args.tid passed) c.in_ok-outs-in-Some.ensures.items)
    ∙ ap (λ (x : Out). ups c.args.station c.args.tid passed ++ x ∷ [])
    (c.send.ensures ∙ ap sends c.block_ack-answer.ensures
    ∙ ap (λ (b : List ℕ). sends (sent_control c.args.station b (control.BlockAck c.args.tid board.0 board.1))) c.bssid.ensures))
