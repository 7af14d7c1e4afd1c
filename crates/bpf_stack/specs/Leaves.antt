-- The slots of a row, from left to right.
use Rattle.std.specs.Prelude.{◌≡◌, ◌<◌, ◌^◌, List, [], ◌∷◌, length, replicate, All}
use Rattle.bpf_absval.specs.declared.slot.AbsSlot.{AbsSlot}
use Rattle.bpf_absval.specs.declared.slot.AbsSlot.TheVariants as slot
use Rattle.bpf_absval.specs.WellFormed.{IsSlot}
use Rattle.bpf_stack.specs.declared.tree.Slots.{Slots}
use Rattle.bpf_stack.specs.declared.tree.Slots.TheVariants.{Unset, Leaf, Fork}

-- an unset row of any depth, one slot, or the left half, then the right
abbrev pub slots_of : Slots → List AbsSlot
slots_of (Unset depth) = replicate (2 ^ depth) slot.Unset
slots_of (Leaf one) = one.value ∷ []
slots_of (Fork pair) = pair.value

-- both rows are of equal length, at least one
pub record IsEven (left right : List AbsSlot) : Type 0 where
  pub same : length left ≡ length right
  pub some : 0 < length left

-- 64 well-formed slots
pub record IsStack (slots : List AbsSlot) : Type 0 where
  pub all : length slots ≡ 64
  pub whole : All IsSlot slots
