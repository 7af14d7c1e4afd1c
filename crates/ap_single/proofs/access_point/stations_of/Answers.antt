use Rattle.std.proofs.Common.{◌+◌, ◌++◌, [], map, take, sym, subst, ap, ◌∙◌}
use Rattle.ap_core.specs.Shards.{reads}
use Rattle.ap_core.specs.Listing.{Joins, ListsStations, no_shard}
use Rattle.ap_single.proofs.Listing.{joins_next, joins_all}
use Rattle.ap_single.proofs.access_point.stations_of.Goals as goal

pub loop-shard-init : goal.loop-shard-init
loop-shard-init c = subst (λ rows. Joins ListsStations [] rows) (sym c.new-rows.ensures.items) no_shard

pub loop-shard-preserved : goal.loop-shard-preserved
loop-shard-preserved c =
    let l = c.loop-shard in
    let joined = joins_next ListsStations c.args.shards.now l.shard-index c.shard-item.result l.rows.items c.in_ok-more.more.items c.loop-shard-test.true c.shard-item.is l.invariant c.in_ok-more.ensures in
    subst (λ rows. Joins ListsStations (map reads (take (l.shard-index + 1) c.args.shards.now)) rows)
    (sym (c.in_ok-extend_from_slice.ensures.items ∙ ap (λ more. l.rows.items ++ more) c.deref.ensures.value)) joined

pub returns : goal.returns
returns c = joins_all ListsStations c.args.shards.now c.loop-shard.shard-index c.loop-shard.rows.items c.loop-shard-test.false c.loop-shard.invariant
