-- What a clause reads of the publisher's two copies.
use Rattle.std.specs.Prelude.{◌≡◌, List, [], drop, Option, Some}
use Rattle.left_right.specs.Sides.{view}
use Rattle.left_right.specs.declared.Absorb.{Ghosts}
use Rattle.left_right.specs.declared.writer.Writer.{Writer}
use Rattle.versions.specs.Lists.{Beginning}

module _ {V P A : Type 0} {g : Ghosts Beginning Beginning Beginning} where
  -- the sets that were put and that readers don't see yet
  abbrev pub pending : Writer Beginning Beginning V P A Beginning g → List Beginning
  pending w = drop w.behind w.log.items

  -- readers see this set, and none is pending
  abbrev pub Shows : Writer Beginning Beginning V P A Beginning g → Beginning → Type 0
  Shows w k = (w.desk.shown.value ≡ k) × (pending w ≡ [])

module _ {P A : Type 0} {g : Ghosts Beginning Beginning Beginning} where
  -- in addition, the publisher's seat knows that set
  abbrev pub IsTied : Writer Beginning Beginning (Option Beginning) P A Beginning g → Beginning → Type 0
  IsTied w k = (view w.desk.place ≡ Some k) × Shows w k
