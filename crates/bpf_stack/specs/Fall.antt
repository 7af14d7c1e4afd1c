-- Each half of a row has fewer slots than the row.
use Rattle.std.specs.Prelude.{◌≤◌, ◌+◌, ◌++◌, max, length}
use Rattle.std.proofs.Common.{arith, length-append}
use Rattle.bpf_stack.specs.declared.tree.Slots.{Slots}
use Rattle.bpf_stack.specs.declared.tree.Slots.TheVariants.{Unset, Leaf, Fork}
use Rattle.bpf_stack.specs.declared.tree.Pair.TheDeep.{deep-Slots}
use Rattle.bpf_stack.specs.Leaves.{slots_of, IsEven}

-- the depth is at most the number of slots plus 1
below : (s : Slots) → deep-Slots s ≤ length (slots_of s) + 1
below (Unset depth) = omega arith
below (Leaf one) = omega arith
below (Fork pair) = omega arith

-- neither half of a row is deeper than the number of slots of both
pub fall : (l r : Slots) → IsEven (slots_of l) (slots_of r) →
    max (deep-Slots l) (max (deep-Slots r) 0) ≤ length (slots_of l ++ slots_of r)
fall l r h =
    omega (arith, below l, below r, length-append (slots_of l) (slots_of r), h.same, h.some)
