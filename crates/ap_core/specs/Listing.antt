-- Lists of the stations that shards know, and of their agreements.
use Rattle.std.specs.Prelude.{List, [], ◌∷◌, ◌++◌}
use Rattle.std.specs.List.Sorted.{IsPermutation, IsSortedByKey}
use Rattle.std.specs.Ordering.{nat_cmp}
use Rattle.std.specs.Cmp.Lexicographic.{slice_cmp}
use Rattle.assoc.specs.declared.standing.KnownStation.{KnownStation}
use Rattle.assoc.specs.Listing as link
use Rattle.ap_agreements.specs.declared.in_force.AgreementInForce.{AgreementInForce}
use Rattle.ap_agreements.specs.Listing as table
use Rattle.ap_agreements.specs.Tables.{key_cmp}
use Rattle.ap_model.specs.Readings.{Readings}

-- the list has exactly the stations that these readings know, each once, by increasing addresses
abbrev pub ListsStations : Readings → List KnownStation → Type 0
ListsStations r rows = link.ListsStations r.standing rows

-- the list has exactly the agreements of these readings, each once, by increasing addresses and TIDs
abbrev pub ListsAgreements : Readings → List AgreementInForce → Type 0
ListsAgreements r rows = table.ListsAgreements r.agreement rows

-- a list for each shard, by its readings, one after another
pub data Joins {X : Type 0} (Lists : Readings → List X → Type 0) : List Readings → List X → Type 0 where
  no_shard : Joins Lists [] []
  one_more : (shards : List Readings) (r : Readings) (rows more : List X) →
      Joins Lists shards rows → Lists r more → Joins Lists (shards ++ r ∷ []) (rows ++ more)

-- the rows of all shards' lists, ordered by address
pub record MergesStations (shards : List Readings) (rows : List KnownStation) : Type 0 where
  pub joined : List KnownStation
  pub joins : Joins ListsStations shards joined
  pub same : IsPermutation joined rows
  pub ordered : IsSortedByKey (λ row. row.station) (slice_cmp nat_cmp) rows

-- the rows of all shards' lists, ordered by address and TID
pub record MergesAgreements (shards : List Readings) (rows : List AgreementInForce) : Type 0 where
  pub joined : List AgreementInForce
  pub joins : Joins ListsAgreements shards joined
  pub same : IsPermutation joined rows
  pub ordered : IsSortedByKey (λ row. (row.station, row.tid)) key_cmp rows
