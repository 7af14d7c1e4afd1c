-- The states of the path that are finished, one after another.
use Rattle.std.specs.Prelude.{ℕ, ◌+◌, max, List, [], ◌∷◌, ◌++◌, reverse, Option, Some, None, is_some, if◌then◌else◌}
use Rattle.bpf_absstate.specs.View.{View}
use Rattle.bpf_prune.specs.declared.kept.Entry.{Entry}
use Rattle.bpf_verifier.specs.declared.frame.Frame.{Frame}

-- a finished state, if there is one, with its budget
abbrev pub entries_of : Option View → ℕ → List Entry
entries_of None budget = []
entries_of (Some a) budget = record { state = a; budget = budget } ∷ []

-- The states of frames, the newest frame first, which are finished one after another once what follows the newest is
-- finished with the budget `done`. It ends at the first frame with a pending successor.
unfoldable pub finishing : List Frame → ℕ → ℕ → List Entry
finishing [] after done = []
finishing (f ∷ fs) after done =
    if is_some f.pending then [] else entries_of f.state (max f.best (done + after) + 1) ++ finishing fs f.before (max f.best (done + after) + 1)

-- those of a path, whose newest frame is the last
abbrev pub finished_of : List Frame → ℕ → ℕ → List Entry
finished_of path after done = finishing (reverse path) after done
