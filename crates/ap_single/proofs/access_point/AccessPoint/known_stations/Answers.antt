use Rattle.std.proofs.Common.{rules, map, subst}
use Rattle.std.proofs.lemmas.List.Sorted.{answers_always}
use Rattle.ap_core.specs.Shards.{reads}
use Rattle.ap_core.specs.Listing.{MergesStations}
use Rattle.ap_single.specs.Leading.{Parts}
use Rattle.ap_single.proofs.access_point.AccessPoint.known_stations.Goals as goal

pub returns : goal.returns
returns c =
    let keys = answers_always _ _ _ (λ f a r g h. search rules) in
    let sort = c.sort_unstable_by_key.ensures in
    subst (λ (p : Parts). MergesStations (map reads p.shards) c.sort_unstable_by_key.new.self.items) c.self.view_is
    (record { joined = c.in_ok-rows.rows.items; joins = c.in_ok-rows.ensures; same = sort.permutation; ordered = sort.sorted (λ row. row.station) keys })
