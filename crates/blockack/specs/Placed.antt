-- What happened to an item.
use Rattle.std.specs.Prelude.{◌≡◌, Bool, true, false, Option}
use Rattle.blockack.specs.declared.agreement.Placed.{Placed}
use Rattle.blockack.specs.declared.agreement.Placed.TheVariants.{Taken, Back}

-- whether the window took it
abbrev pub is_taken : {F : Type 0} → Placed F → Bool
is_taken Taken = true
is_taken (Back item) = false

-- what is returned is the item
abbrev pub HandsBack : {F : Type 0} → Option F → Placed F → Type 0
HandsBack item Taken = Unit {0}
HandsBack item (Back x) = x ≡ item
