-- The tables of maps: one that all workers share, or one for each worker.
use Rattle.std.specs.Prelude.{◌≡◌, ◌+◌, ◌<◌, ℕ, List, [], ◌∷◌, length, slice_get, slice_set, Option, Some, option_and_then}
use Rattle.std.specs.List.{All}
use Rattle.bpf_regions.specs.declared.maps.Shape.{Shape}
use Rattle.bpf_regions.specs.declared.maps.Scope.{Scope}
use Rattle.bpf_regions.specs.declared.maps.Scope.TheVariants.{Shared, Worker}
use Rattle.bpf_regions.specs.Maps.{IsShape}
use Rattle.shared_maps.specs.Seats.{newcomer}
use Rattle.shared_maps.specs.Tables.{Map, Place}

-- one map's shape, and its tables
pub record Tables : Type 0 where
  pub shape : Shape
  pub tables : List Map

-- all tables have the map's shape
pub record AreTables (m : Tables) : Type 0 where
  pub valid : IsShape m.shape
  pub each : All (λ t. t.shape ≡ m.shape) m.tables

-- how many tables a map has for `workers` workers
abbrev pub table_count : Scope → ℕ → ℕ
table_count Shared workers = 1
table_count Worker workers = workers

-- the number of the table that a worker's programs use
abbrev pub place_of : Scope → ℕ → ℕ
place_of Shared worker = 0
place_of Worker worker = worker

-- that table
abbrev pub table_of : Tables → ℕ → Option Map
table_of m worker = slice_get m.tables (place_of m.shape.scope worker)

-- a new table with `count` seats, none of them handed out
pub record IsNew (count : ℕ) (t : Map) : Type 0 where
  pub seats : t.seats ≡ count
  pub given : t.given ≡ 0

-- the table after handing out one more seat
abbrev pub seated : Map → Map
seated t = record t { given = t.given + 1 }

-- the same table, whatever seats it handed out
pub record IsSameTable (t t' : Map) : Type 0 where
  pub table : t'.table ≡ t.table
  pub shape : t'.shape ≡ t.shape

-- the tables are the same ones
pub record AreSameTables (tables tables' : List Map) : Type 0 where
  pub as_many : length tables' ≡ length tables
  pub each : (at : ℕ) (t t' : Map) → slice_get tables at ≡ Some t → slice_get tables' at ≡ Some t' → IsSameTable t t'

-- the map keeps its shape and its tables
pub record KeepsTables (m m' : Tables) : Type 0 where
  pub shape : m'.shape ≡ m.shape
  pub tables : AreSameTables m.tables m'.tables

-- The seat is the next one of the table that the worker's programs use; all else is unchanged.
pub record GaveSeat (m : Tables) (worker : ℕ) (seat : Place) (m' : Tables) : Type 0 where
  pub table : Map
  pub table_is : table_of m worker ≡ Some table
  pub own : seat.table ≡ table.table
  pub newcomer : seat.known ≡ newcomer (table.given + 1)
  pub shape : m'.shape ≡ m.shape
  pub tables : m'.tables ≡ slice_set m.tables (place_of m.shape.scope worker) (seated table)
