-- Whether the program that code spells is accepted.
use Rattle.std.specs.Prelude.{◌≡◌, ℕ, List}
use Rattle.bpf_regions.specs.declared.hooks.Hook.{Hook}
use Rattle.bpf_regions.specs.declared.maps.Shape.{Shape}
use Rattle.bpf_decode.specs.Program.{Code, Spells}
use Rattle.bpf_machine.specs.Verified.{Verified}
use Rattle.bpf_verifier.specs.Admission.{IsSafeBudget}
use Rattle.bpf_verifier.specs.declared.limit.Limits.{Limits}
use Rattle.apd_program.specs.Programs.{IsOfProgram}
use Rattle.apd_program.specs.Verifying.{IsVerdict}
use Rattle.apd_program.specs.declared.admission.Admission.{Admission}
use Rattle.apd_program.specs.declared.admission.Admission.TheVariants.{Admitted, Answered}
use Rattle.apd_program.specs.declared.answer.Answer.{Answer}

-- nothing is said of a program that has a budget
abbrev pub SaysNothing : Code → ℕ → Answer → Type 0
SaysNothing p budget a = ⊥

-- the answer is the fault of code, or the refusal of its program
abbrev pub IsUnadmitted : Limits → List ℕ → List Shape → Answer → Type 0
IsUnadmitted limits code shapes a = IsOfProgram (IsVerdict limits SaysNothing) code shapes a

-- the program that code spells, accepted for a hook within limits
pub record IsAdmitted (limits : Limits) (hook : Hook) (code : List ℕ) (shapes : List Shape) (v : Verified) : Type 0 where
  pub spelled : Spells code v.code
  pub for_maps : v.code.shapes ≡ shapes
  pub for_hook : v.hook ≡ hook
  pub safe : IsSafeBudget v.code limits.states v.budget

-- either
abbrev pub IsAdmission : Limits → Hook → List ℕ → List Shape → Admission → Type 0
IsAdmission limits hook code shapes (Admitted v) = IsAdmitted limits hook code shapes v
IsAdmission limits hook code shapes (Answered a) = IsUnadmitted limits code shapes a

-- what is said of the program that code spells, if it is accepted; or else why not
pub data IsOfAdmitted (limits : Limits) (hook : Hook) (says : Verified → Answer → Type 0) (code : List ℕ) (shapes : List Shape) (a : Answer) : Type 0 where
  Accepted : (v : Verified) → IsAdmitted limits hook code shapes v → says v a → IsOfAdmitted limits hook says code shapes a
  Unaccepted : IsUnadmitted limits code shapes a → IsOfAdmitted limits hook says code shapes a
