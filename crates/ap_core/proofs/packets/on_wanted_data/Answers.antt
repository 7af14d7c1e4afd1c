use Rattle.std.proofs.Common.{◌≡◌, ◌≢◌, ◌+◌, ◌-◌, ◌≤◌, ◌++◌, ◌∙◌, ap, refl, sym, subst, Option, Some, ℕ, List, [], arith, vec_len, vec_capacity}
use Rattle.std.specs.Prelude.{IsSomeAnd}
use Rattle.assoc.specs.Standings.{standing}
use Rattle.blockack.specs.Reading.{IsWanted, IsWaiting, numbers_held}
use Rattle.ap_model.specs.declared.event.Out.{Out}
use Rattle.ap_model.specs.Readings.{Using}
use Rattle.ap_model.specs.Agreements.{ups}
use Rattle.ap_core.specs.DataFrames.{packet}
use Rattle.ap_core.proofs.Handling.{asking_told}
use Rattle.ap_core.proofs.DataLaws.{taken_from, held_nothing, told}
use Rattle.ap_core.proofs.UpsLaws.{ups_received, passes_more}
use Rattle.ap_core.proofs.packets.on_wanted_data.Goals as goal

pub hold-requires-clause-inside : goal.hold-requires-clause-inside
hold-requires-clause-inside g c = c.requires.under.stands.place.inside

pub hold-requires-clause-waits : goal.hold-requires-clause-waits
hold-requires-clause-waits g c = λ d.
    let under = c.requires.under in
    let nothing : c.args.wanted.most ≡ 0 = omega (arith, c.if-most-eq0.true) in
    let waits : IsWaiting under.kept.using.window c.args.came.number = record { wanted = under.is.wanted; none = under.is.bound ∙ nothing } in
    rw (under.stands.is d) waits

pub returns-then-most-eq0-clause-step : goal.returns-then-most-eq0-clause-step
returns-then-most-eq0-clause-step g c =
    let under = c.requires.under in
    asking_told g.J.Judge.gives _ _ _ _ _ c.judge-verdict.result c.is_none-dropped.result c.judge-verdict.ensures
    (taken_from (standing c.args.state.now.link) c.args.state.now.agreements.kept c.hold.new.self.kept c.args.state.now.clock (packet c.args.came)
    c.args.came.frame.sender refl c.args.wanted.under.tid under.tid c.args.wanted.under.start
    (subst (λ (o : Option Using). IsSomeAnd o (λ u. IsWanted u.window c.args.came.number × (c.args.wanted.under.start ≡ u.window.start))) (sym under.stands.agreed) (under.is.wanted, under.starts))
    _ _ c.judge-verdict.result c.item_of-item.result
    c.new-body.result c.in_ok-outs.outs.items [] c.requires.came.spelled (c.context_of-context.ensures ∙ told c.args.came (Some c.args.wanted.under.start) (standing c.args.state.now.link) c.requires.came) c.item_of-item.ensures (c.new-body.ensures ∙ c.into_tail.ensures)
    (c.hold.ensures c.args.came.frame.sender c.args.wanted.under.tid under.stands.place)
    c.in_ok-outs.ensures.items)
    (held_nothing c.args.came.destination c.new-body.result c.judge-verdict.result c.item_of-item.result c.is_none-dropped.result c.item_of-item.ensures c.is_none-dropped.ensures)

pub pass_to-requires-clause-inside : goal.pass_to-requires-clause-inside
pass_to-requires-clause-inside g c = c.requires.under.stands.place.inside

pub pass_to-requires-clause-wanted : goal.pass_to-requires-clause-wanted
pass_to-requires-clause-wanted g c = λ d. rw (c.requires.under.stands.is d) c.requires.under.is.wanted

pub pass_to-requires-clause-room : goal.pass_to-requires-clause-room
pass_to-requires-clause-room g c = λ d.
    let under = c.requires.under in
    let some : c.args.wanted.most ≢ 0 = λ e. omega (arith, e, c.if-most-eq0.false) in
    let more = passes_more under.kept.using.window c.args.came.number c.args.wanted.most under.is.bound some in
    let room : numbers_held under.kept.using.window + 1 ≤ vec_capacity c.in_ok-outs.outs - vec_len c.in_ok-outs.outs = omega (arith, more, c.in_ok-outs.ensures.exact, c.in_ok-outs.ensures.len) in
    rw (under.stands.is d) room

pub returns-clause-step : goal.returns-clause-step
returns-clause-step g c =
    let under = c.requires.under in
    let w = c.pass_to.ensures c.args.came.frame.sender c.args.wanted.under.tid under.stands.place in
    asking_told g.J.Judge.gives _ _ _ _ _ c.judge-verdict.result c.is_none-dropped.result c.judge-verdict.ensures
    (taken_from (standing c.args.state.now.link) c.args.state.now.agreements.kept c.pass_to.new.self.kept c.args.state.now.clock (packet c.args.came)
    c.args.came.frame.sender refl c.args.wanted.under.tid under.tid c.args.wanted.under.start
    (subst (λ (o : Option Using). IsSomeAnd o (λ u. IsWanted u.window c.args.came.number × (c.args.wanted.under.start ≡ u.window.start))) (sym under.stands.agreed) (under.is.wanted, under.starts))
    _ _ c.judge-verdict.result c.item_of-item.result
    c.new-body.result c.pass_to.new.out.outs.items w.passed c.requires.came.spelled (c.context_of-context.ensures ∙ told c.args.came (Some c.args.wanted.under.start) (standing c.args.state.now.link) c.requires.came) c.item_of-item.ensures (c.new-body.ensures ∙ c.into_tail.ensures)
    w.uses
    (ups_received _ (λ u v n h e. e) w.passed _ c.pass_to.new.out w.received
    ∙ ap (λ (t : List Out). t ++ ups c.sender-station.result c.args.wanted.under.tid w.passed) c.in_ok-outs.ensures.items
    ∙ ap (λ (a : List ℕ). ups a c.args.wanted.under.tid w.passed) c.sender-station.ensures))
    (held_nothing c.args.came.destination c.new-body.result c.judge-verdict.result c.item_of-item.result c.is_none-dropped.result c.item_of-item.ensures c.is_none-dropped.ensures)
