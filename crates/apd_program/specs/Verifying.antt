-- The answers of `verify` and `trace` for a program.
use Rattle.std.specs.Prelude.{◌≡◌, ◌≢◌, ℕ, List, Option, string_bytes}
use Rattle.bpf_regions.specs.declared.hooks.Hook.{Hook}
use Rattle.bpf_decode.specs.Program.{Code}
use Rattle.bpf_verifier.specs.Admission.{IsSafeBudget, IsRefusalWithin}
use Rattle.bpf_verifier.specs.Limits.{nearest}
use Rattle.bpf_verifier.specs.declared.limit.Limits.{Limits}
use Rattle.bpf_verifier.specs.declared.refusal.Refusal.{Refusal}
use Rattle.bpf_rules.specs.declared.fault.Fault.TheVariants.{NoMemory}
use Rattle.apd_text.specs.Trace.{IsTrace}
use Rattle.apd_words.specs.declared.Terms.{Terms}
use Rattle.apd_program.specs.declared.answer.Answer.{Answer}
use Rattle.apd_program.specs.declared.answer.Answer.TheVariants.{Accepted, Run, Refused}

-- at most that many states, and that much work, if it is limited
abbrev pub within : ℕ → Option ℕ → Limits
within states work = record { states = nearest states; work = work }

-- The verdict on a program within limits: what is said of it with a budget, or a refusal that isn't for lack of memory.
pub data IsVerdict (limits : Limits) (says : Code → ℕ → Answer → Type 0) (p : Code) : Answer → Type 0 where
  Admitted : (budget : ℕ) (a : Answer) → IsSafeBudget p limits.states budget → says p budget a → IsVerdict limits says p a
  NotAdmitted : (e : Refusal) → e.fault ≢ NoMemory → IsRefusalWithin p limits e → IsVerdict limits says p (Refused e)

-- `verify`: the budget
abbrev pub IsBudget : Code → ℕ → Answer → Type 0
IsBudget p budget a = a ≡ Accepted budget

-- `trace`: the run on a frame with a context
abbrev pub IsRun : Hook → List ℕ → List ℕ → ℕ → Code → ℕ → Answer → Type 0
IsRun hook frame context draw p budget (Run text) =
    IsTrace (record { code = p; hook = hook; budget = budget }) frame context draw (string_bytes text)
IsRun hook frame context draw p budget _ = ⊥

-- `verify`, within the states and the work that are asked for
abbrev pub IsVerified : Terms → Code → Answer → Type 0
IsVerified terms = IsVerdict (within terms.states terms.work) IsBudget

-- `trace`, within them, for the hook
abbrev pub IsRunWithin : Terms → List ℕ → List ℕ → ℕ → Code → Answer → Type 0
IsRunWithin terms frame context draw = IsVerdict (within terms.states terms.work) (IsRun terms.hook frame context draw)
