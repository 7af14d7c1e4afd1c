-- Lists of published loads, and their prefixes.
use Rattle.std.specs.Prelude.{◌≡◌, ◌+◌, ℕ, List, [], ◌∷◌, ◌++◌, length, map, Some}
use Rattle.std.specs.List.{All}
use mathlib.Core.List.{IsPrefix}
use Rattle.logbook.specs.Pages.{Book}
use Rattle.ap_journal.specs.Beginnings.{Right}
use Rattle.bpf_regions.specs.declared.maps.Shape.{Shape}
use Rattle.versions.specs.declared.list.Entry.{Entry}
use Rattle.versions.specs.declared.list.Entry.TheVariants.{Opened, Loaded}
use Rattle.versions.specs.declared.list.Load.{Load}
use Rattle.versions.specs.Sets.{Fits}

-- a prefix of a list of published loads: which list it is, its map shapes, the loads
pub record Beginning : Type 0 where
  pub list : Book
  pub shapes : List Shape
  pub loads : List Load

-- the prefix with one more load
abbrev pub with_load : Beginning → Load → Beginning
with_load k l = record k { loads = k.loads ++ l ∷ [] }

-- a prefix of a list, and one that extends it
pub record Begins (earlier later : Beginning) : Type 0 where
  pub same_list : later.list ≡ earlier.list
  pub same_shapes : later.shapes ≡ earlier.shapes
  pub has_all : IsPrefix earlier.loads later.loads

-- what a caller has of the remaining readers: the list, its map shapes, and their number
pub record Readers : Type 0 where
  pub list : Book
  pub shapes : List Shape
  pub left : ℕ

-- a reader that was given out and has seen no load
abbrev pub newcomer : Readers → Beginning
newcomer p = record { list = p.list; shapes = p.shapes; loads = [] }

-- that many readers of a list, none given out yet
abbrev pub readers_of : Beginning → ℕ → Readers
readers_of k count = record { list = k.list; shapes = k.shapes; left = count }

-- the map shapes that the first entry names
abbrev pub shapes_of : List Entry → List Shape
shapes_of [] = []
shapes_of (Opened shapes ∷ _) = shapes
shapes_of (Loaded _ ∷ _) = []

-- the loads among the entries
abbrev pub loads_of : List Entry → List Load
loads_of [] = []
loads_of (Opened _ ∷ entries) = loads_of entries
loads_of (Loaded l ∷ entries) = l ∷ loads_of entries

-- what the entries of a book say
abbrev pub beginning : Book → List Entry → Beginning
beginning list entries =
    record { list = list; shapes = shapes_of entries; loads = loads_of entries }

-- the entries are the shapes and then loads, each of which fits the shapes
pub record IsWritten (entries : List Entry) : Type 0 where
  pub order : entries ≡ Opened (shapes_of entries) ∷ map Loaded (loads_of entries)
  pub fitting : All (Fits (shapes_of entries)) (loads_of entries)

-- the right is to add after everything known
pub record IsNext (a : Right) (k : Beginning) : Type 0 where
  pub same_list : a.journal ≡ k.list
  pub next : a.turn ≡ Some (length k.loads + 2)
