-- The tables of all maps, and an operator's seats at them.
use Rattle.std.specs.Prelude.{◌≡◌, ◌<◌, ℕ, List, length, slice_get, Some}
use Rattle.bpf_regions.specs.declared.maps.Scope.{Scope}
use Rattle.bpf_regions.specs.Maps.{word_count}
use Rattle.shared_maps.specs.Tables.{Place}
use Rattle.bpf_helpers.specs.Tables.{Tables, table_count}
use Rattle.bpf_helpers.specs.Sums.{AreSeated}
use Rattle.ap_rows.specs.Rows.{Rows}

-- the maps, and how many workers there are
pub record Stock : Type 0 where
  pub maps : List Tables
  pub workers : ℕ

-- there is a worker, and each map has as many tables as its scope requires
pub record IsStocked (s : Stock) : Type 0 where
  pub some : 0 < s.workers
  pub each : (at : ℕ) (m : Tables) → slice_get s.maps at ≡ Some m → length m.tables ≡ table_count m.shape.scope s.workers

-- one seat at each table of a map
abbrev pub SitsAt : Tables → List Place → Type 0
SitsAt m seats = AreSeated m.tables seats

-- one seat at each table of each map
abbrev pub AreOperators : List Tables → List (List Place) → Type 0
AreOperators maps seats = Rows SitsAt maps seats

-- there is a map of that number and scope that has this word
pub record Names (scope : Scope) (maps : List Tables) (at word : ℕ) : Type 0 where
  pub map : Tables
  pub here : slice_get maps at ≡ Some map
  pub scope_is : map.shape.scope ≡ scope
  pub inside : word < word_count map.shape
