-- The rule of the published set: each seat that knows a list knows the list of that set.
use Rattle.std.specs.Prelude.{◌≡◌, ℕ, List, Option, None, Some}
use mathlib.Core.Option.{some}
use lib.ListN.{get_elem?}
use Rattle.logbook.specs.Pages.{Book}
use Rattle.versions.specs.Lists.{Beginning}

-- the list that a seat knows
abbrev pub tie_of : Option Beginning → Option Book
tie_of None = None
tie_of (Some k) = Some k.list

-- what a seat knows, if anything, is of this list
abbrev pub IsOf : Book → Option Beginning → Type 0
IsOf list None = Unit {0}
IsOf list (Some k) = k.list ≡ list

-- what each seat knows is of the list of the set
abbrev pub OneList : Beginning → List (Option Beginning) → Type 0
OneList set views = (seat : ℕ) (v : Option Beginning) → get_elem? views seat ≡ some v → IsOf set.list v

-- the seat then knows the set y, which is of the list that it knew before
abbrev pub Enters : Option Beginning → Beginning → Beginning → Option Beginning → Type 0
Enters v x y w = (w ≡ Some y) × IsOf y.list v
