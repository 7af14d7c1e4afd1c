-- How a check proceeds from state to state.
use Rattle.std.specs.Prelude.{◌≡◌, ◌⊎◌, ◌<◌, ◌≤◌, ℕ, Bool, List, MatchBool, slice_index_or}
use Rattle.std.specs.List.{Any}
use Rattle.bpf_decode.specs.Program.{Code, IsTarget}
use Rattle.bpf_absstate.specs.View.{View, entry_view}
use Rattle.bpf_rules.specs.declared.ways.Ways.{Ways}
use Rattle.bpf_rules.specs.declared.ways.Ways.TheVariants.{Two}
use Rattle.bpf_cert.specs.declared.claim.Claim.{Claim}
use Rattle.bpf_cert.specs.declared.coverage.Step.{Step}
use Rattle.bpf_cert.specs.declared.coverage.Step.TheVariants.{Decided, Onward}
use Rattle.bpf_cert.specs.Covered.{Includes, IsIncluded, LeadsWithin}

-- true if P holds, false if it doesn't
abbrev pub Tells : Bool → Type 0 → Type 0
Tells told P = MatchBool told P (P → ⊥)

-- the claim includes the state, with a budget of at most n
abbrev pub Serves : Claim → View → ℕ → Type 0
Serves e a n = Includes e a × (e.budget ≤ n)

-- a successor leads on: at a target slot a claim includes it, at any other slot it leads within n
abbrev pub Arrives : Code → List Claim → ℕ → View → Type 0
Arrives c es n x = (IsTarget c.slots x.pc × IsIncluded es x n) ⊎ ((IsTarget c.slots x.pc → ⊥) × LeadsWithin c es n x)

-- P and Q are equivalent
pub record IsSame (P Q : Type 0) : Type 0 where
  pub back : Q → P
  pub forth : P → Q

-- a step decides P, or reduces it to a state that must lead within n
abbrev pub Goes : Code → List Claim → ℕ → Type 0 → Step → Type 0
Goes c es n P (Decided told) = Tells told P
Goes c es n P (Onward x) = IsSame P (LeadsWithin c es n x)

-- a jump leads to a target slot
abbrev pub SecondIsTarget : Code → Ways → Type 0
SecondIsTarget c (Two x y) = IsTarget c.slots y.pc
SecondIsTarget c w = Unit {0}

-- the least budget so far of a claim that includes the start
pub record IsLeast (es : List Claim) (n : ℕ) (b : ℕ) : Type 0 where
  pub claim : Any (λ e. Includes e entry_view × (e.budget ≡ b)) es
  pub least : (k : ℕ) (d : Claim) → k < n → Includes (slice_index_or es k d) entry_view → b ≤ (slice_index_or es k d).budget
