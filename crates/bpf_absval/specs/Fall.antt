-- Each side of a fork has fewer rooms than the fork.
use Rattle.std.specs.Prelude.{ℕ, ◌≤◌, ◌+◌, ◌++◌, max, length}
use Rattle.std.proofs.Common.{arith, length-append}
use Rattle.bpf_absval.specs.declared.tree.Tree.{Tree}
use Rattle.bpf_absval.specs.declared.tree.Tree.TheVariants.{Empty, One, Fork}
use Rattle.bpf_absval.specs.declared.tree.Pair.TheDeep.{deep-Tree}
use Rattle.bpf_absval.specs.Leaves.{rooms_of, IsFork}

-- the depth is at most the number of rooms plus 1
below : (t : Tree) → deep-Tree t ≤ length (rooms_of t) + 1
below Empty = omega arith
below (One room) = omega arith
below (Fork pair) = omega arith

-- neither side of a fork is deeper than the number of rooms of both
pub fall : (low split high : ℕ) (l r : Tree) → IsFork low split high (rooms_of l) (rooms_of r) →
    max (deep-Tree l) (max (deep-Tree r) 0) ≤ length (rooms_of l ++ rooms_of r)
fall low split high l r h =
    omega (arith, below l, below r, length-append (rooms_of l) (rooms_of r), h.some_left, h.some_right)
