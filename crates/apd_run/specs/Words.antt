-- What is done for a line with a word of a map, by the tables of all maps and what an operator's seat at each knows of its
-- history.
use Rattle.std.specs.Prelude.{◌≡◌, ℕ, List, Option, Some, None}
use Rattle.bpf_regions.specs.declared.maps.MapOp.TheVariants as operation
use Rattle.bpf_regions.specs.declared.maps.Scope.{Scope}
use Rattle.bpf_regions.specs.declared.maps.Scope.TheVariants as scope
use Rattle.shared_maps.specs.Tables.{Place}
use Rattle.bpf_helpers.specs.Tables.{Tables}
use Rattle.ap_tables.specs.Accesses.{Accesses, Sums}
use Rattle.ap_tables.specs.Stocks.{Names}
use Rattle.apd_script.specs.declared.command.MapWord.{MapWord}
use Rattle.apd_driver.specs.declared.reports.report.Told.{Told}
use Rattle.apd_driver.specs.declared.reports.report.Told.TheVariants.{Word}

-- there is no map of this scope that has the word
pub record Lacks (scope : Scope) (maps : List Tables) (word : MapWord) : Type 0 where
  pub nowhere : Names scope maps word.map word.word → ⊥

-- A number is stored in a word of a shared map, by one access in a legal history of its table; nothing is done if there is
-- no such word.
pub data StoresWord (maps : List Tables) (word : MapWord) (value : ℕ) (old new : List (List Place)) : Type 0 where
  IsStored : Accesses maps old word.map word.word (operation.Store value) 0 new → StoresWord maps word value old new
  NoneStored : Lacks scope.Shared maps word → new ≡ old → StoresWord maps word value old new

-- What is told of a word of a shared map is what one access returned, in a legal history of its table; nothing is told if
-- there is no such word.
pub data ReadsWord (maps : List Tables) (word : MapWord) (old new : List (List Place)) : Option Told → Type 0 where
  IsRead : (value : ℕ) → Accesses maps old word.map word.word operation.Load value new → ReadsWord maps word old new (Some (Word value))
  NoneRead : Lacks scope.Shared maps word → new ≡ old → ReadsWord maps word old new None

-- What is told of a word of a worker's map is the sum of what one access to the table of each worker returned, each in a
-- legal history of its table; nothing is told if there is no such word.
pub data SumsWord (maps : List Tables) (word : MapWord) (old new : List (List Place)) : Option Told → Type 0 where
  IsSummed : (value : ℕ) → Sums maps old word.map word.word value new → SumsWord maps word old new (Some (Word value))
  NoneSummed : Lacks scope.Worker maps word → new ≡ old → SumsWord maps word old new None
