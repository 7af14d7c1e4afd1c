-- When entries show that a program is safe.
use Rattle.std.specs.Prelude.{◌≡◌, ◌≤◌, ◌⊎◌, ℕ, zero, suc, true, List, Ok}
use Rattle.std.specs.List.{All, Any}
use Rattle.bpf_insn.specs.declared.insn.Insn.{Insn}
use Rattle.bpf_decode.specs.Program.{Code, Holds, IsTarget}
use Rattle.bpf_absstate.specs.View.{View, entry_view}
use Rattle.bpf_absstate.specs.Inclusion.{state_included}
use Rattle.bpf_rules.specs.declared.ways.Ways.{Ways}
use Rattle.bpf_rules.specs.Examined.{examined}
use Rattle.bpf_plain.specs.Standing.{EachWay}
use Rattle.bpf_cert.specs.declared.claim.Claim.{Claim}

-- A claim includes a state if its own state does, and it says nothing of R0 to R5 of calling functions.
pub record Includes (e : Claim) (a : View) : Type 0 where
  pub included : state_included a e.state ≡ true
  pub is_open : e.is_open ≡ true

-- some claim includes the state, with a budget of at most n
abbrev pub IsIncluded : List Claim → View → ℕ → Type 0
IsIncluded es a n = Any (λ e. Includes e a × (e.budget ≤ n)) es

-- The instruction at this state passes its checks, and each successor leads within one instruction less to EXIT or to a
-- claim: at a target slot, some claim includes it with a budget of at most what is left; at any other slot, it leads in
-- turn.
unfoldable pub LeadsWithin : Code → List Claim → ℕ → View → Type 0
LeadsWithin c es zero a = ⊥
LeadsWithin c es (suc n) a =
    (i : Insn) × (w : Ways) × Holds c.slots a.pc i × (examined c.shapes i a ≡ Ok w) ×
    EachWay w (λ x. (IsTarget c.slots x.pc × IsIncluded es x n) ⊎ ((IsTarget c.slots x.pc → ⊥) × LeadsWithin c es n x))

-- from each claim every path leads within its budget to EXIT or to a claim
abbrev pub AreKept : Code → List Claim → Type 0
AreKept c es = All (λ e. LeadsWithin c es e.budget e.state) es

-- A claim with that budget includes the start, and none with a smaller one does.
pub record BeginsWithin (es : List Claim) (b : ℕ) : Type 0 where
  pub claim : Any (λ e. Includes e entry_view × (e.budget ≡ b)) es
  pub least : All (λ e. Includes e entry_view → b ≤ e.budget) es

-- the claims show that the program ends within b instructions
pub record AreCovered (c : Code) (es : List Claim) (b : ℕ) : Type 0 where
  pub kept : AreKept c es
  pub start : BeginsWithin es b
