-- Folded frames of the path.
use Rattle.std.specs.Prelude.{◌≡◌, ◌⊎◌, List, [], ◌∷◌, ◌++◌, map, Option, Some, None, is_some, IfSome}
use Rattle.bpf_absstate.specs.View.{View}
use Rattle.bpf_verifier.specs.declared.frame.Frame.{Frame}
use Rattle.bpf_verifier.specs.declared.fold.Outline.{Outline}
use Rattle.bpf_verifier.specs.Pushed.{IsPushedOut}

-- the outline of a frame
abbrev pub outline_of : Frame → Outline
outline_of f = record { before = f.before; best = f.best; forks = is_some f.pending }

-- the first frame has that state
abbrev pub BeginsWith : View → List Frame → Type 0
BeginsWith a [] = ⊥
BeginsWith a (f ∷ fs) = f.state ≡ Some a

-- what a fold keeps of frames: the state of the first, and all outlines
pub record IsFolded (first : View) (outlines : List Outline) (frames : List Frame) : Type 0 where
  pub begins : BeginsWith first frames
  pub same : outlines ≡ map outline_of frames

-- a frame with another state of its own, or none
abbrev pub with_state : Frame → Option View → Frame
with_state f o = record { before = f.before; state = o; pending = f.pending; best = f.best }

-- The newest frame is taken off the path: as it is, or without its state, if no successor is pending and those below it
-- push the state out. Then the state isn't kept when it is finished.
pub record IsTaken (old new : List Frame) (f : Frame) : Type 0 where
  pub state : Option View
  pub last : old ≡ new ++ with_state f state ∷ []
  pub same : (f.state ≡ state) ⊎ ((f.state ≡ None) × (f.pending ≡ None) × IfSome state (IsPushedOut new))

-- the frames of all folds
unfoldable pub unfolded : List (List Frame) → List Frame
unfolded [] = []
unfolded (fs ∷ rest) = fs ++ unfolded rest
