use Rattle.std.proofs.Common.{◌≡◌, ℕ, ◌-◌, suc, length, sym, ap, subst, ◌∙◌, arith}
use Rattle.std.proofs.lemmas.List.{get_or_default}
use Rattle.std.specs.Prelude.{slice_index_or, slice_set}
use Rattle.ap_core.specs.declared.shard.Shard.{Shard}
use Rattle.ap_core.specs.AccessPoints.{TickedBelow}
use Rattle.ap_core.specs.Ticking.{late_outs}
use Rattle.ap_core.proofs.AccessLaws.{none_ticked, one_ticked}
use Rattle.ap_core.proofs.access_point.+tick_below.Goals as goal

pub returns-then-count-eq0-clause-ticked : goal.returns-then-count-eq0-clause-ticked
returns-then-count-eq0-clause-ticked t c =
    subst (λ (n : ℕ). TickedBelow n c.args.units c.args.shards.now c.args.shards.now c.in_ok-outs.outs.items) (sym c.if-count-eq0.true)
    (none_ticked c.args.units c.args.shards.now c.in_ok-outs.outs.items c.in_ok-outs.ensures.items)

pub returns-clause-ticked : goal.returns-clause-ticked
returns-clause-ticked t c =
    let e : suc (c.args.count - 1) ≡ c.args.count = omega (arith, c.if-count-eq0.false) in
    let l : length c.tick_below.new.shards ≡ 8 = c.in_ok-outs-2.ensures.ticked.many ∙ c.told-shards in
    subst (λ (n : ℕ). TickedBelow n c.args.units c.args.shards.now (slice_set c.tick_below.new.shards (c.args.count - 1) c.tick.new.self) c.tick.new.outs.items) e
    (one_ticked c.args.units (c.args.count - 1) c.args.shards.now c.tick_below.new.shards c.in_ok-outs-2.outs.items c.in_ok-outs-2.ensures.ticked
    (omega (arith, l, e, c.requires)) c.index-shards-last-3.result c.tick.new.self c.tick.new.outs.items c.tick.ensures.step c.tick.ensures.rules)

pub tick-requires-clause-outs : goal.tick-requires-clause-outs
tick-requires-clause-outs t c =
    let last = c.args.count - 1 in
    let now = slice_index_or c.tick_below.new.shards last c.index-shards-last-3.result in
    let was = slice_index_or c.args.shards.now last c.index-shards-last-2.result in
    let same : now ≡ was =
    c.in_ok-outs-2.ensures.ticked.others last c.index-shards-last-3.result (omega arith)
    ∙ get_or_default c.args.shards.now last c.index-shards-last-3.result c.index-shards-last-2.result (omega (arith, c.told-shards, c.if-count-eq0.false, c.requires)) in
    let m : late_outs now.state c.args.units ≡ late_outs was.state c.args.units = ap (λ (s : Shard). late_outs s.state c.args.units) same in
    omega (arith, m, c.most_outs-most.ensures, c.in_ok-outs-2.ensures.room, c.in_ok-outs-2.outs.small, c.saturating_add-needed.ensures)

pub returns-clause-room : goal.returns-clause-room
returns-clause-room t c =
    let last = c.args.count - 1 in
    let now = slice_index_or c.tick_below.new.shards last c.index-shards-last-3.result in
    let was = slice_index_or c.args.shards.now last c.index-shards-last-2.result in
    let same : now ≡ was =
    c.in_ok-outs-2.ensures.ticked.others last c.index-shards-last-3.result (omega arith)
    ∙ get_or_default c.args.shards.now last c.index-shards-last-3.result c.index-shards-last-2.result (omega (arith, c.told-shards, c.if-count-eq0.false, c.requires)) in
    let m : late_outs now.state c.args.units ≡ late_outs was.state c.args.units = ap (λ (s : Shard). late_outs s.state c.args.units) same in
    omega (arith, m, c.tick.ensures.len, c.tick.ensures.capacity, c.most_outs-most.ensures, c.in_ok-outs-2.ensures.room, c.in_ok-outs-2.outs.small, c.saturating_add-needed.ensures)
