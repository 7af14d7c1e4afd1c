-- Verdicts of accepted programs.
use Rattle.std.specs.Prelude.{◌≡◌, ◌≤◌, ◌⊎◌, ℕ, List, Some, None}
use Rattle.std.specs.List.{All}
use Rattle.bpf_regions.specs.declared.asks.Ask as program
use Rattle.bpf_model.specs.Run.{Safe, Ends}
use Rattle.bpf_machine.specs.Verified.{Verified}
use Rattle.bpf_machine.specs.Runs.{setting_of}
use Rattle.hooks.specs.Verdicts.{no_program}
use Rattle.versions.specs.Sets.{Programs, program_at}
use Rattle.ap_model.specs.Asks.{Ask}

-- the set has no program for the hook, and the verdict is the one for that case
pub record ByTable (programs : Programs) (ask : Ask) (verdict : ℕ) : Type 0 where
  pub none : program_at ask.hook programs ≡ None
  pub number : verdict ≡ no_program ask.hook

-- The set's program for the hook was accepted: it is safe within its budget, so no run of it meets a fault. It ran on
-- the frame and the context of the query, whatever its own queries returned, ended within its budget, and the verdict
-- is its R0.
pub record ByProgram (programs : Programs) (ask : Ask) (verdict : ℕ) : Type 0 where
  pub accepted : Verified
  pub in_force : program_at ask.hook programs ≡ Some accepted
  pub for_hook : accepted.hook ≡ ask.hook
  pub safe : Safe accepted.code.slots accepted.code.shapes accepted.budget
  pub asked : List (program.Ask × ℕ)
  pub steps : ℕ
  pub notes : List ℕ
  pub ends : Ends (setting_of accepted.code ask.frame ask.context) asked steps verdict notes
  pub within : steps ≤ accepted.budget

-- either of these
abbrev pub IsJudged : Programs → Ask → ℕ → Type 0
IsJudged programs ask verdict = ByTable programs ask verdict ⊎ ByProgram programs ask verdict

-- the same for each verdict of a list
abbrev pub AreJudged : Programs → List (Ask × ℕ) → Type 0
AreJudged programs asked = All (λ x. IsJudged programs x.0 x.1) asked
