-- Finished states that later ones push out of their slot.
use Rattle.std.specs.Prelude.{◌≡◌, ◌==◌, ◌≤◌, ◌+◌, ℕ, List, ◌∷◌, ◌++◌, length, filter, Bool, false, Option, Some, None, IfSome, if◌then◌else◌, slice_index_or}
use Rattle.std.specs.List.{All}
use Rattle.bpf_absstate.specs.View.{View}
use Rattle.bpf_verifier.specs.declared.frame.Frame.{Frame}

-- the state, if there is one, is at that slot
abbrev pub is_state_at : ℕ → Option View → Bool
is_state_at pc None = false
is_state_at pc (Some a) = a.pc == pc

-- how many of the frames have a state at that slot
abbrev pub states_at : ℕ → List Frame → ℕ
states_at pc fs = length (filter (λ f. is_state_at pc f.state) fs)

-- no successor is pending
abbrev pub AreStraight : List Frame → Type 0
AreStraight fs = All (λ f. f.pending ≡ None) fs

-- The frames below a state end with some without a pending successor, of which at least 64 have states at its slot. These
-- are finished after it, and push it out.
pub record IsPushedOut (below : List Frame) (a : View) : Type 0 where
  pub older : List Frame
  pub newer : List Frame
  pub parts : below ≡ older ++ newer
  pub straight : AreStraight newer
  pub many : 64 ≤ states_at a.pc newer

-- from an index on, the frames' states are pushed out by those below
abbrev pub ArePushedOut : ℕ → List Frame → Type 0
ArePushedOut needed fs =
    (below : List Frame) (f : Frame) (above : List Frame) → fs ≡ below ++ f ∷ above → needed ≤ length below → IfSome f.state (IsPushedOut below)

-- counts by slot, none of which is more than the states there
abbrev pub CountAtMost : List ℕ → List Frame → Type 0
CountAtMost counts fs = (pc : ℕ) → slice_index_or counts pc 0 ≤ states_at pc fs

-- one more at a slot, or what there was
abbrev pub MoreAt : ℕ → List ℕ → List ℕ → Type 0
MoreAt pc old new = (k : ℕ) → slice_index_or new k 0 ≤ slice_index_or old k 0 + (if pc == k then 1 else 0)

abbrev pub NoMore : List ℕ → List ℕ → Type 0
NoMore old new = (k : ℕ) → slice_index_or new k 0 ≤ slice_index_or old k 0

-- 64 were counted at a slot already, and no more are
abbrev pub IsLate : ℕ → List ℕ → List ℕ → Type 0
IsLate pc old new = (64 ≤ slice_index_or old pc 0) × NoMore old new
