-- When each slot of one stack is included in the slot of another at that index.
use Rattle.std.specs.Prelude.{◌≡◌, ◌<◌, ◌&&◌, ℕ, List, [], ◌∷◌, length, slice_index_or, Bool, true, false}
use Rattle.bpf_absval.specs.declared.slot.AbsSlot.{AbsSlot}
use Rattle.bpf_absval.specs.declared.slot.AbsSlot.TheVariants as slot
use Rattle.bpf_absval.specs.declared.room.Room.{Room}
use Rattle.bpf_absval.specs.Inclusion.{slot_included}

-- both have as many slots, and each of the first is included in that of the second
unfoldable pub slots_included : List Room → List Room → List AbsSlot → List AbsSlot → Bool
slots_included rooms others [] [] = true
slots_included rooms others [] (b ∷ bs) = false
slots_included rooms others (a ∷ more) [] = false
slots_included rooms others (a ∷ more) (b ∷ bs) =
    slot_included rooms others a b && slots_included rooms others more bs

-- at that index the slot of the first stack isn't included in that of the second
pub record IsOutside (rooms others : List Room) (a b : List AbsSlot) (index : ℕ) : Type 0 where
  pub within : index < length a
  pub outside : slot_included rooms others (slice_index_or a index slot.Unset)
      (slice_index_or b index slot.Unset) ≡ false

-- at that index an unset slot isn't included
pub record IsSet (rooms others : List Room) (b : List AbsSlot) (index : ℕ) : Type 0 where
  pub within : index < length b
  pub outside : slot_included rooms others slot.Unset (slice_index_or b index slot.Unset) ≡ false
