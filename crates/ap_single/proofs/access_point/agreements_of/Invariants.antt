use Rattle.std.proofs.Common.{map, take}
use Rattle.ap_core.specs.Shards.{reads}
use Rattle.ap_core.specs.Listing.{Joins, ListsAgreements}
use Rattle.ap_single.proofs.access_point.agreements_of.Given as goal

abbrev pub invariant-loop-shard : goal.invariant-loop-shard
invariant-loop-shard l = Joins ListsAgreements (map reads (take l.shard-index l.shards)) l.rows.items
