-- Programs whose abstract states, counted without regard to finished ones, are few and free of faults.
use Rattle.std.specs.Prelude.{ℕ, ◌+◌, ◌≤◌, List, [], ◌∷◌, Option, Some, None}
use Rattle.bpf_decode.specs.Program.{Code}
use Rattle.bpf_absstate.specs.View.{View}
use Rattle.bpf_verifier.specs.declared.frame.Frame.{Frame}
use Rattle.bpf_verifier.specs.declared.exploration.Unwound.{Unwound}
use Rattle.bpf_verifier.specs.declared.exploration.Unwound.TheVariants.{Onward, Over}
use Rattle.bpf_rules.specs.declared.ways.Ways.{Ways}
use Rattle.bpf_rules.specs.declared.ways.Ways.TheVariants.{Nowhere, One, Two}
use Rattle.bpf_plain.specs.Clear.{IsClear}

-- a pending successor leads to at most n states
abbrev pub IsClearWay : Code → Option View → ℕ → Type 0
IsClearWay c None n = Unit {0}
IsClearWay c (Some a) n = IsClear c a n

-- the pending successors lead to at most n states
unfoldable pub AreClear : Code → List Frame → ℕ → Type 0
AreClear c [] n = Unit {0}
AreClear c (f ∷ fs) n = (l m : ℕ) × IsClearWay c f.pending l × AreClear c fs m × (l + m ≤ n)

-- so do they together with what is explored next
abbrev pub IsClearOn : Code → List Frame → ℕ → Unwound → Type 0
IsClearOn c fs n (Onward a) = (l m : ℕ) × IsClear c a l × AreClear c fs m × (l + m ≤ n)
IsClearOn c fs n (Over b) = Unit {0}

-- with these successors, a state leads to at most n states, itself included
abbrev pub AreClearWays : Code → Ways → ℕ → Type 0
AreClearWays c Nowhere n = 1 ≤ n
AreClearWays c (One x) n = (m : ℕ) × IsClear c x m × (1 + m ≤ n)
AreClearWays c (Two x y) n = (l m : ℕ) × IsClear c x l × IsClear c y m × (1 + (l + m) ≤ n)
