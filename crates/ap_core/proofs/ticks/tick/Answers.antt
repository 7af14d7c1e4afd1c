use Rattle.std.proofs.Common.{◌≡◌, ℕ, ap, ◌∙◌, arith}
use Rattle.std.specs.Prelude.{count_by, vec_len}
use Rattle.assoc.specs.Standings.{standing}
use Rattle.ap_agreements.specs.Tables.{Kept, is_late, late_held}
use Rattle.ap_core.specs.Handles.{rules}
use Rattle.ap_core.specs.Ticking.{late_count, late_outs, outs_of_ends}
use Rattle.ap_core.proofs.TickLaws.{ticked}
use Rattle.ap_core.proofs.ticks.tick.Goals as goal

-- the agreements that end are the timed-out ones
many : (c : goal.After-end_all-arg-1) → vec_len c.take_late.new.ended ≡ late_count c.args.state.now c.args.units
many c = c.take_late.ensures.many ∙ ap (λ (n : ℕ). count_by (λ (k : Kept). is_late n k.using) c.args.state.now.agreements.kept) c.clock_after-clock.ensures

as_many : (c : goal.After-end_all-arg-1) → outs_of_ends c.take_late.new.ended.items ≡ late_outs c.args.state.now c.args.units
as_many c =
    let held = c.take_late.ensures.held ∙ ap (λ (n : ℕ). late_held n c.args.state.now.agreements.kept) c.clock_after-clock.ensures in
    omega (arith, held, many c, c.take_late.new.ended.ok.0)

pub end_all-requires-clause-frames : goal.end_all-requires-clause-frames
end_all-requires-clause-frames c = omega (arith, many c, c.requires.room.frames)

pub end_all-requires-clause-room : goal.end_all-requires-clause-room
end_all-requires-clause-room c = omega (arith, as_many c, c.requires.outs)

pub returns-clause-step : goal.returns-clause-step
returns-clause-step c =
    let e = c.end_all.ensures.ends c.args.state.now.link.shard in
    record {
      more = e.more;
      is = e.is;
      step = ticked (rules c.args.state.now.link.shard c.args.setting.config.now) (standing c.args.state.now.link) c.args.state.now.agreements.kept
          c.take_late.new.self.kept c.take_late.new.ended.items c.args.state.now.clock c.clock_after-clock.result c.args.units e.more c.take_late.ensures.exact
          c.clock_after-clock.ensures c.take_late.ensures.rising c.take_late.ensures.others e.ends;
    }

pub returns-clause-len : goal.returns-clause-len
returns-clause-len c =
    let m : vec_len c.take_late.new.ended ≡ late_count c.args.state.now c.args.units =
    c.take_late.ensures.many ∙ ap (λ (n : ℕ). count_by (λ (k : Kept). is_late n k.using) c.args.state.now.agreements.kept) c.clock_after-clock.ensures in
    let held = c.take_late.ensures.held ∙ ap (λ (n : ℕ). late_held n c.args.state.now.agreements.kept) c.clock_after-clock.ensures in
    omega (arith, held, m, c.take_late.new.ended.ok.0, c.end_all.ensures.len)
