use Rattle.std.proofs.Common.{rules, subst}
use Rattle.std.proofs.lemmas.List.Sorted.{answers_always}
use Rattle.std.specs.List.Sorted.{IsPermutation}
use Rattle.assoc.specs.Standings.{standing}
use Rattle.assoc.specs.Listing.{ListsStations}
use Rattle.assoc.proofs.Listing.{lists}
use Rattle.assoc.proofs.link.Link.known_stations.Goals as goal

pub returns : goal.returns
returns c =
    let keys = answers_always _ _ _ (λ f a r g h. search rules) in
    let sort = c.sort_unstable_by_key.ensures in
    subst (λ v. ListsStations (standing v) c.sort_unstable_by_key.new.self.items) c.self.view_is
    (lists c.self.inside.stations.entries c.sort_unstable_by_key.new.self.items c.in_ok-rows.ensures.apart
    (subst (λ l. IsPermutation l c.sort_unstable_by_key.new.self.items) c.in_ok-rows.ensures.rows sort.permutation)
    (sort.sorted (λ r. r.station) keys))
