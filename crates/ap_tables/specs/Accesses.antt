-- What an operator does with words of maps.
use Rattle.std.specs.Prelude.{◌≡◌, ◌%◌, ℕ, List, slice_get, slice_set, sum, Some}
use Rattle.bpf_regions.specs.declared.maps.MapOp.{MapOp}
use Rattle.shared_maps.specs.History.{modulus}
use Rattle.shared_maps.specs.Tables.{Map, Place}
use Rattle.bpf_helpers.specs.Tables.{Tables, table_of}
use Rattle.bpf_helpers.specs.Sums.{Loads}
use Rattle.bpf_helpers.specs.Hooked.{AccessedBy}

-- One access to the one table of a shared map, by the operator's seat there: the seat's history extends to a legal one
-- that ends with this access. All other seats are unchanged.
pub record Accesses (maps : List Tables) (seats : List (List Place)) (at word : ℕ) (operation : MapOp) (answer : ℕ) (seats' : List (List Place)) : Type 0 where
  pub map : Tables
  pub map_is : slice_get maps at ≡ Some map
  pub table : Map
  pub table_is : table_of map 0 ≡ Some table
  pub before : List Place
  pub before_is : slice_get seats at ≡ Some before
  pub after : List Place
  pub made : AccessedBy table before 0 word operation answer after
  pub seats_are : seats' ≡ slice_set seats at after

-- One load of the word from each table of a map, by worker number, each in that table's legal history, and their sum.
-- All other seats are unchanged.
pub record Sums (maps : List Tables) (seats : List (List Place)) (at word result : ℕ) (seats' : List (List Place)) : Type 0 where
  pub map : Tables
  pub map_is : slice_get maps at ≡ Some map
  pub before : List Place
  pub before_is : slice_get seats at ≡ Some before
  pub after : List Place
  pub answers : List ℕ
  pub loaded : Loads word map.tables before answers after
  pub is : result ≡ sum answers % modulus map.shape.width
  pub seats_are : seats' ≡ slice_set seats at after
