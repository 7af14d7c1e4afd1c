-- Accesses of C to words of maps.
use Rattle.std.specs.Prelude.{◌≡◌, ◌≢◌, ◌<◌, ℕ, List, map, slice_get, Option, Some, None}
use Rattle.bpf_regions.specs.declared.asks.Ask.TheVariants.{Access}
use Rattle.bpf_regions.specs.declared.maps.MapOp.{MapOp}
use Rattle.bpf_regions.specs.declared.maps.Shape.{Shape}
use Rattle.bpf_model.specs.Run.{InRange, words_in}
use Rattle.bpf_helpers.specs.Tables.{Tables}
use Rattle.bpf_helpers.specs.Hooked as hooked
use Rattle.apd_c.specs.declared.handle.Content.{Content}
use Rattle.apd_c.specs.declared.handle.Content.TheVariants as content
use Rattle.apd_c.specs.declared.maps.Maps.{Maps}
use Rattle.apd_c.specs.declared.shapes.MapShape.{MapShape}
use Rattle.apd_c.specs.declared.words.Loaded.{Loaded}
use Rattle.apd_c.specs.Answers.{IsDone, Perhaps, Unless, UnlessNone, UnlessSome}
use Rattle.apd_c.specs.Given.{AreInLimits, shape_of}

-- the maps that are held
abbrev pub maps_of : Option Content → Option Maps
maps_of (Some (content.Maps boxed)) = Some boxed.value
maps_of _ = None

-- the content is maps of these shapes, whose programs next draw this word
abbrev pub HoldsMaps : List MapShape → ℕ → Option Content → Type 0
HoldsMaps shapes draw o = (m : Maps) × (maps_of o ≡ Some m) × (m.shapes ≡ map shape_of shapes) × (m.state.draw ≡ draw)

-- perhaps 40, for lack of memory; otherwise perhaps 62, for lack of a seat; otherwise 90 exactly if the shapes are out
-- of their limits; otherwise 0
abbrev pub IsMakingNumber : List MapShape → ℕ → Type 0
IsMakingNumber shapes = Perhaps 40 (Perhaps 62 (Unless (AreInLimits shapes) 90 IsDone))

-- The number of filling an empty handle with maps: 92 exactly if it isn't empty; otherwise the number of making them.
abbrev pub IsMapsNumber : List MapShape → Option Content → ℕ → Type 0
IsMapsNumber shapes o = UnlessNone o 92 (IsMakingNumber shapes)

-- 90 exactly if no map has the word; otherwise 0
abbrev pub IsWordNumber : List Shape → ℕ → ℕ → ℕ → Type 0
IsWordNumber shapes at word = Unless (word < words_in (slice_get shapes at)) 90 IsDone

-- what C's accesses read: the tables of the maps
abbrev pub reads_of : List Tables → hooked.Given
reads_of maps = record { maps = maps; worker = 0; clock = 0; stations = 0 }

-- everything but C's seats is unchanged
pub record KeepsAll (m m' : Maps) : Type 0 where
  pub shapes : m'.shapes ≡ m.shapes
  pub tables : m'.tables ≡ m.tables
  pub state : m'.state ≡ m.state

-- One access to a word by C's seat, in the legal history of the map's table. Its result is in the word's range; a
-- store's is 0.
pub record IsAccessed (m : Maps) (at word : ℕ) (operation : MapOp) (answer : ℕ) (m' : Maps) : Type 0 where
  pub keeps : KeepsAll m m'
  pub made : hooked.Gives (reads_of m.tables.maps) m.hand (Access at word operation) answer m'.hand
  pub in_range : InRange m.shapes (Access at word operation) answer

-- one access, if the handle holds maps
abbrev pub HasAccessed : Option Content → ℕ → ℕ → MapOp → ℕ → Option Content → Type 0
HasAccessed o at word operation answer o' =
    (m : Maps) × (m' : Maps) × (maps_of o ≡ Some m) × (maps_of o' ≡ Some m') × IsAccessed m at word operation answer m'

-- The number of an access: 91 exactly if the handle holds no maps; otherwise 90 exactly if none has the word; otherwise
-- 0.
abbrev pub IsAccessNumber : Option Content → ℕ → ℕ → ℕ → Type 0
IsAccessNumber o at word = UnlessSome (maps_of o) 91 (λ m. IsWordNumber m.shapes at word)

-- One operation on a word of the maps that a handle holds: 0 and the result of the access, or the number of a refusal,
-- which changes nothing.
pub record Operates (o : Option Content) (at word : ℕ) (operation : MapOp) (answer : Loaded) (o' : Option Content) : Type 0 where
  pub made : answer.number ≡ 0 → HasAccessed o at word operation answer.value o'
  pub kept : answer.number ≢ 0 → o' ≡ o
  pub number : IsAccessNumber o at word answer.number
