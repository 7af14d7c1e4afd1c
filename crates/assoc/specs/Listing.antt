-- A list of the stations that a shard knows.
use Rattle.std.specs.Prelude.{◌≡◌, ◌↔◌, ℕ, Some, List, Contains, AllPairs}
use Rattle.std.specs.Ordering.{nat_cmp}
use Rattle.std.specs.declared.cmp.Ordering.TheVariants.{Less}
use Rattle.std.specs.Cmp.Lexicographic.{slice_cmp}
use Rattle.assoc.specs.declared.standing.Known.{Known}
use Rattle.assoc.specs.declared.standing.KnownStation.{KnownStation}
use Rattle.assoc.specs.Standings.{Standings}

-- an entry of the table of stations, as a row
abbrev pub row_of : List ℕ × Known → KnownStation
row_of e = record { station = e.0; known = e.1 }

-- The list has exactly the known stations, each with its standing. It has each once, by increasing addresses: one
-- comes before another by the first octet in which they differ.
pub record ListsStations (f : Standings) (rows : List KnownStation) : Type 0 where
  pub exact : (row : KnownStation) → Contains rows row ↔ (f row.station ≡ Some row.known)
  pub rising : AllPairs (λ p q. slice_cmp nat_cmp p.station q.station ≡ Less) rows
