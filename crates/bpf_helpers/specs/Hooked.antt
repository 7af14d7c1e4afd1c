-- What programs are answered over tables of maps: each query, and whole lists of queries.
use Rattle.std.specs.Prelude.{◌≡◌, ◌≢◌, ◌⊎◌, ◌==◌, ◌<◌, if◌then◌else◌, ℕ, List, [], ◌∷◌, ◌++◌, map, length, slice_get, slice_set, Option, Some, option_and_then}
use Rattle.std.specs.List.{All}
use Rattle.bpf_regions.specs.declared.maps.Shape.{Shape}
use Rattle.bpf_regions.specs.declared.maps.MapOp.{MapOp}
use Rattle.bpf_regions.specs.declared.asks.Helper.{Helper}
use Rattle.bpf_regions.specs.declared.asks.Helper.TheVariants.{Now, Stations, Draw}
use Rattle.bpf_regions.specs.declared.asks.Ask.{Ask}
use Rattle.bpf_regions.specs.declared.asks.Ask.TheVariants.{Access, Help}
use Rattle.shared_maps.specs.declared.seen.Entry.{Entry}
use Rattle.shared_maps.specs.History.{entry, StartsWith}
use Rattle.shared_maps.specs.Seats.{Known, Witnesses, Extends}
use Rattle.shared_maps.specs.Tables.{Map, Place}
use Rattle.bpf_helpers.specs.Draws.{next_draw, words_from, word_after}
use Rattle.bpf_helpers.specs.Tables.{Tables, KeepsTables, place_of, table_of}

-- what a worker's programs read: its tables of the maps, by their numbers; and the clock and the number of associated
-- stations of the shard that handles the frame
pub record Given : Type 0 where
  pub maps : List Tables
  pub worker : ℕ
  pub clock : ℕ
  pub stations : ℕ

-- what they change: a seat at each map, and the word drawn next
pub record Held : Type 0 where
  pub seats : List Place
  pub draw : ℕ

-- the table of the map with that number
abbrev pub table_at : List Tables → ℕ → ℕ → Option Map
table_at maps worker at = option_and_then (λ m. table_of m worker) (slice_get maps at)

-- the shapes of maps
abbrev pub shapes_of : List Tables → List Shape
shapes_of maps = map (λ m. m.shape) maps

-- each map has a table for that worker
abbrev pub HaveTables : List Tables → ℕ → Type 0
HaveTables maps worker = (at : ℕ) (m : Tables) → slice_get maps at ≡ Some m → place_of m.shape.scope worker < length m.tables

-- one seat of each of these tables, in order
abbrev pub AreSeats : List Tables → ℕ → List Place → Type 0
AreSeats maps worker seats =
    (length seats ≡ length maps)
    × ((at : ℕ) (t : Map) (s : Place) → table_at maps worker at ≡ Some t → slice_get seats at ≡ Some s → s.table ≡ t.table)

-- each map has a table for that worker, and these are the seats at those tables
abbrev pub IsFitting : List Tables → ℕ → List Place → Type 0
IsFitting maps worker seats = HaveTables maps worker × AreSeats maps worker seats

-- each map's tables are the same ones
pub record KeepTables (maps maps' : List Tables) : Type 0 where
  pub as_many : length maps' ≡ length maps
  pub each : (at : ℕ) (m m' : Tables) → slice_get maps at ≡ Some m → slice_get maps' at ≡ Some m' → KeepsTables m m'

-- one access to that table by the seat at index `at`
pub record AccessedBy (table : Map) (seats : List Place) (at word : ℕ) (operation : MapOp) (answer : ℕ) (seats' : List Place) : Type 0 where
  pub before : Place
  pub after : Place
  pub before_is : slice_get seats at ≡ Some before
  pub same_table : after.table ≡ before.table
  pub made : Extends table.shape before.known word operation answer after.known
  pub seats_are : seats' ≡ slice_set seats at after

-- one access to the table of that map by its seat
pub record Accessed (g : Given) (seats : List Place) (at word : ℕ) (operation : MapOp) (answer : ℕ) (seats' : List Place) : Type 0 where
  pub table : Map
  pub table_is : table_at g.maps g.worker at ≡ Some table
  pub made : AccessedBy table seats at word operation answer seats'

-- what a helper returns, and the word drawn next
abbrev pub HelperGives : Given → ℕ → Helper → ℕ → ℕ → Type 0
HelperGives g draw Now answer draw' = (answer ≡ g.clock) × (draw' ≡ draw)
HelperGives g draw Stations answer draw' = (answer ≡ g.stations) × (draw' ≡ draw)
HelperGives g draw Draw answer draw' = (answer ≡ draw) × (draw' ≡ next_draw draw)

-- what a query is answered, and what is held then
abbrev pub Gives : Given → Held → Ask → ℕ → Held → Type 0
Gives g h (Access at word operation) answer h' = Accessed g h.seats at word operation answer h'.seats × (h'.draw ≡ h.draw)
Gives g h (Help helper) answer h' = (h'.seats ≡ h.seats) × HelperGives g h.draw helper answer h'.draw

-- a query of map `at`, as an access of seat `number`
abbrev pub entry_of : ℕ → ℕ → Ask → ℕ → List Entry
entry_of number at (Access m word operation) answer = if m == at then entry number word operation answer ∷ [] else []
entry_of number at (Help helper) answer = []

-- the accesses among all queries that concern one map
abbrev pub entries_of : ℕ → ℕ → List (Ask × ℕ) → List Entry
entries_of number at [] = []
entries_of number at (a ∷ asks) = entry_of number at a.0 a.1 ++ entries_of number at asks

-- `made` are the seat's new accesses, each once, in order. What it has seen extends what it had seen. It is a legal
-- history with exactly the seat's accesses if `made` isn't empty, or if it was one.
pub record Continues (shape : Shape) (v : Known) (made : List Entry) (w : Known) : Type 0 where
  pub number : w.number ≡ v.number
  pub own : w.own ≡ v.own ++ made
  pub seen : StartsWith w.seen v.seen
  pub witnessed : (made ≢ []) ⊎ Witnesses shape v → Witnesses shape w

-- for each map, the queries are its seat's new accesses
pub record AllContinue (g : Given) (seats : List Place) (asks : List (Ask × ℕ)) (seats' : List Place) : Type 0 where
  pub as_many : length seats' ≡ length seats
  pub each : (at : ℕ) (t : Map) (s s' : Place) → table_at g.maps g.worker at ≡ Some t → slice_get seats at ≡ Some s → slice_get seats' at ≡ Some s'
      → (s'.table ≡ s.table) × Continues t.shape s.known (entries_of s.known.number at asks) s'.known

-- `now` returned the clock, `stations` the number of associated stations
abbrev pub IsReading : Given → Ask × ℕ → Type 0
IsReading g ((Help Now), answer) = answer ≡ g.clock
IsReading g ((Help Stations), answer) = answer ≡ g.stations
IsReading g _ = Unit {0}

-- the answers to `draw`
abbrev pub draws_of : List (Ask × ℕ) → List ℕ
draws_of [] = []
draws_of (((Help Draw), answer) ∷ asks) = answer ∷ draws_of asks
draws_of (_ ∷ asks) = draws_of asks

-- What a run's queries come to.
pub record Served (g : Given) (h : Held) (asks : List (Ask × ℕ)) (h' : Held) : Type 0 where
  pub seats : AllContinue g h.seats asks h'.seats
  pub readings : All (IsReading g) asks
  pub draws : draws_of asks ≡ words_from h.draw (length (draws_of asks))
  pub draw : h'.draw ≡ word_after h.draw (length (draws_of asks))
