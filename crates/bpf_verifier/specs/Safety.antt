-- What an exploration has found about the safety of runs.
use Rattle.std.specs.Prelude.{ℕ, ◌+◌, ◌⊎◌, List, Option, Some, None}
use Rattle.std.specs.List.{All}
use Rattle.bpf_model.specs.State.{Setting, State}
use Rattle.bpf_model.specs.Step.{next}
use Rattle.bpf_model.specs.Run.{IsFine, SafeWithin}
use Rattle.bpf_absstate.specs.Contains.{Contains}
use Rattle.bpf_absstate.specs.View.{View}
use Rattle.bpf_prune.specs.declared.kept.Entry.{Entry}
use Rattle.bpf_verifier.specs.declared.frame.Frame.{Frame}
use Rattle.bpf_verifier.specs.declared.exploration.Unwound.{Unwound}
use Rattle.bpf_verifier.specs.declared.exploration.Unwound.TheVariants.{Onward, Over}
use Rattle.bpf_verifier.specs.Path.{Leads, Opens, Linked}

-- a state that a pending successor contains
abbrev pub InWay : Setting → Option View → State → Type 0
InWay p None s = ⊥
InWay p (Some a) s = Contains p a s

-- each run from a state of a meets no fault and ends within b steps
abbrev pub AllSafe : Setting → ℕ → View → Type 0
AllSafe p b a = (s : State) → Contains p a s → SafeWithin p b s

-- k states with one successor lead from a to b: if b is safe within n steps, a is safe within n + k
abbrev pub LeadsSafely : Setting → Leads
LeadsSafely p k a b = (n : ℕ) → AllSafe p n b → AllSafe p (n + k) a

-- each next state of a state in the frame is in the child, in the pending successor, or safe within the best budget so
-- far
abbrev pub IsExplored : Setting → Opens
IsExplored p f own child =
    (s : State) → Contains p own s → IsFine p.shapes (next p s) (λ t. Contains p child t ⊎ (InWay p f.pending t ⊎ SafeWithin p f.best t))

-- the finished states are safe within their budgets
abbrev pub AreSafe : Setting → List (List Entry) → Type 0
AreSafe p table = All (All (λ e. AllSafe p e.budget e.state)) table

-- the exploration continues at a state, or is over with a budget for the start
abbrev pub IsOngoing : Setting → List Frame → ℕ → View → Unwound → Type 0
IsOngoing p fs after start (Onward a) = Linked (LeadsSafely p) (IsExplored p) fs after start a
IsOngoing p fs after start (Over b) = AllSafe p b start
