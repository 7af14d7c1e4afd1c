-- Maps as plain arrays of numbers, and a port over them.
use Rattle.std.specs.Prelude.{◌≡◌, ℕ, ◌*◌, ◌^◌, ◌<◌, List, [], length, map, replicate, slice_index, slice_index_or, slice_set}
use Rattle.bpf_regions.specs.declared.maps.WordWidth.TheVariants.{Eight}
use Rattle.bpf_regions.specs.declared.maps.Scope.TheVariants.{Shared}
use Rattle.std.specs.List.{All}
use Rattle.bpf_regions.specs.Maps.{bytes_of, word_count}
use Rattle.bpf_regions.specs.declared.maps.Shape.{Shape}
use Rattle.bpf_regions.specs.declared.maps.MapOp.{MapOp}
use Rattle.bpf_regions.specs.declared.maps.MapOp.TheVariants.{Store}
use Rattle.bpf_regions.specs.declared.asks.Ask.{Ask}
use Rattle.bpf_regions.specs.declared.asks.Ask.TheVariants.{Access, Help}
use Rattle.bpf_regions.specs.declared.asks.Helper.TheVariants.{Now, Stations, Draw}
use Rattle.bpf_model.specs.Memory.{number_after}
use Rattle.bpf_helpers.specs.Draws.{next_draw}

-- a map's shape and its words
pub record Table : Type 0 where
  pub shape : Shape
  pub words : List ℕ

-- the words of a map are below this
abbrev pub word_limit : Shape → ℕ
word_limit s = 2 ^ (8 * bytes_of s.width)

-- as many words as the shape says, each within the width
pub record IsTable (t : Table) : Type 0 where
  pub count : length t.words ≡ word_count t.shape
  pub fit : All (λ x. x < word_limit t.shape) t.words

-- a map with all words 0
abbrev pub zeros : Shape → Table
zeros s = record { shape = s; words = replicate (word_count s) 0 }

-- a store returns 0, every other access the old number
abbrev pub answer_to : MapOp → ℕ → ℕ
answer_to (Store y) x = 0
answer_to op x = x

-- the map after an access to a word
abbrev pub after : Table → ℕ → MapOp → Table
after t word op = record t { words = slice_set t.words word (number_after (word_limit t.shape) op (slice_index t.words word)) }

-- the maps by number, the clock, how many stations are associated, and the word drawn next
pub record Plain : Type 0 where
  pub tables : List Table
  pub clock : ℕ
  pub stations : ℕ
  pub draw : ℕ

-- the shape of a table
abbrev pub shape_of : Table → Shape
shape_of t = t.shape

-- the shapes of its maps
abbrev pub shapes_of : Plain → List Shape
shapes_of p = map shape_of p.tables

-- a missing map has no words
abbrev pub table_of : Plain → ℕ → Table
table_of p k = slice_index_or p.tables k (record { shape = record { entries = 0; words = 0; width = Eight; scope = Shared }; words = [] })

-- what a query is answered
abbrev pub answer_of : Plain → Ask → ℕ
answer_of p (Access k word op) = answer_to op (slice_index (table_of p k).words word)
answer_of p (Help Now) = p.clock
answer_of p (Help Stations) = p.stations
answer_of p (Help Draw) = p.draw

-- the port after a query
abbrev pub left_after : Plain → Ask → Plain
left_after p (Access k word op) = record p { tables = slice_set p.tables k (after (table_of p k) word op) }
left_after p (Help Now) = p
left_after p (Help Stations) = p
left_after p (Help Draw) = record p { draw = next_draw p.draw }
