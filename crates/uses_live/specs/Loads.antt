-- One load of a word of one of several tables.
use Rattle.std.specs.Prelude.{◌≡◌, ◌<◌, ℕ, List, Some, slice_get}
use Rattle.bpf_regions.specs.declared.maps.MapOp.TheVariants.{Load}
use Rattle.bpf_regions.specs.Maps.{word_count}
use Rattle.shared_maps.specs.Seats.{Extends}
use Rattle.shared_maps.specs.Tables.{Map, Place}

-- the seat belongs to table `at`, which has the word
pub record IsSeatAt (tables : List Map) (at word : ℕ) (seat : Place) : Type 0 where
  pub table : Map
  pub table_is : slice_get tables at ≡ Some table
  pub own : seat.table ≡ table.table
  pub inside : word < word_count table.shape

-- the seat has loaded the word
pub record Loaded
    (tables : List Map) (at word : ℕ) (seat : Place) (answer : ℕ) (seat' : Place) : Type 0 where
  pub table : Map
  pub table_is : slice_get tables at ≡ Some table
  pub same_table : seat'.table ≡ seat.table
  pub made : Extends table.shape seat.known word Load answer seat'.known
