-- Visits bound the budgets.
use Rattle.std.specs.Prelude.{ℕ, ◌+◌, ◌≤◌, List, [], ◌∷◌}
use Rattle.std.specs.List.{All}
use Rattle.bpf_prune.specs.declared.kept.Entry.{Entry}
use Rattle.bpf_verifier.specs.declared.frame.Frame.{Frame}
use Rattle.bpf_verifier.specs.declared.exploration.Unwound.{Unwound}
use Rattle.bpf_verifier.specs.declared.exploration.Unwound.TheVariants.{Onward, Over}

-- the number of states on the path
unfoldable pub weight : List Frame → ℕ → ℕ
weight [] after = after
weight (f ∷ fs) after = f.before + 1 + weight fs after

-- the number of states on the path from the first frame's own state on
abbrev pub states_from : List Frame → ℕ
states_from [] = 0
states_from (f ∷ fs) = 1 + weight fs 0

-- each budget so far, of a frame or a finished state, plus the states on the path is at most the visits
pub record IsCounted (fs : List Frame) (after : ℕ) (table : List (List Entry)) (visits : ℕ) : Type 0 where
  pub frames : All (λ f. f.best + weight fs after ≤ visits) fs
  pub finished : All (All (λ e. e.budget + weight fs after ≤ visits)) table

-- after that many visits, the exploration continues, or is over with a budget that is at most the visits
abbrev pub IsPaid : List Frame → ℕ → ℕ → Unwound → Type 0
IsPaid fs after visits (Onward a) = weight fs after ≤ visits
IsPaid fs after visits (Over b) = b ≤ visits
