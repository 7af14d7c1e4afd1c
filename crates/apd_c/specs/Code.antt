-- Verdicts on code.
use Rattle.std.specs.Prelude.{◌≡◌, ◌≢◌, ◌≤◌, ◌*◌, ◌^◌, ◌⊎◌, ◌==◌, if◌then◌else◌, ℕ, List, map, Option, Some, None}
use Rattle.bpf_regions.specs.declared.hooks.Hook.{Hook}
use Rattle.bpf_regions.specs.declared.maps.Shape.{Shape}
use Rattle.bpf_regions.specs.Hooks.{number_of}
use Rattle.bpf_decode.specs.Code.{WellFormed}
use Rattle.bpf_decode.specs.Program.{Code, Begins, Spells}
use Rattle.bpf_decode.specs.Answer.{Refuses, fault_number, fault_slot}
use Rattle.bpf_decode.specs.declared.fault.DecodeFault.{DecodeFault}
use Rattle.bpf_decode.specs.declared.fault.DecodeFault.TheVariants.{NoMemory}
use Rattle.bpf_model.specs.Run.{Safe}
use Rattle.bpf_machine.specs.Verified.{Verified}
use Rattle.bpf_absstate.specs.View.{entry_view}
use Rattle.bpf_plain.specs.Clear.{IsClear}
use Rattle.bpf_plain.specs.Walks.{IsPlain}
use Rattle.bpf_rules.specs.Faults as rules
use Rattle.bpf_rules.specs.declared.fault.Fault.{Fault}
use Rattle.bpf_rules.specs.declared.fault.Fault.TheVariants as fault
use Rattle.bpf_verifier.specs.Limits.{nearest}
use Rattle.bpf_verifier.specs.declared.refusal.Refusal.{Refusal}
use Rattle.bpf_cert.specs.Limits.{HasPassedLimit}
use Rattle.apd_c.specs.declared.answer.Answer.{Answer}
use Rattle.apd_c.specs.declared.handle.Content.{Content}
use Rattle.apd_c.specs.declared.handle.Content.TheVariants as content
use Rattle.apd_c.specs.declared.shapes.MapShape.{MapShape}
use Rattle.apd_c.specs.Answers.{answer, Perhaps, Unless, UnlessNone}
use Rattle.apd_c.specs.Given.{IsAskable, shape_of}

-- the limit of states that C passes; 0 stands for the verifier's own
abbrev pub limit_of : ℕ → ℕ
limit_of states = if states == 0 then 2 ^ 22 else nearest states

-- the limit of work that C passes; 0 stands for none
abbrev pub work_limit : ℕ → Option ℕ
work_limit work = if work == 0 then None else Some work

-- The program that these bytes spell, for maps of these shapes and a hook, safe within its budget, which is at most the
-- limit of states.
pub record IsAdmitted (hook : Hook) (bytes : List ℕ) (shapes : List Shape) (limit : ℕ) (a : Verified) : Type 0 where
  pub spells : Spells bytes a.code
  pub shapes_are : a.code.shapes ≡ shapes
  pub hook_is : a.hook ≡ hook
  pub safe : Safe a.code.slots a.code.shapes a.budget
  pub small : a.budget ≤ limit

-- The bytes aren't well-formed code, or an allocation failed.
pub record IsUndecoded (bytes : List ℕ) (shapes : List Shape) (answer : Answer) : Type 0 where
  pub fault : DecodeFault
  pub refuses : Refuses bytes shapes fault
  pub only : fault ≢ NoMemory → WellFormed bytes shapes → ⊥
  pub number : answer.number ≡ fault_number fault
  pub slot : answer.slot ≡ fault_slot fault

-- lack of memory; or there is a limit of work, and the work has passed it
abbrev pub IsMemoryOrWork : Option ℕ → Fault → Type 0
IsMemoryOrWork work why = (why ≡ fault.NoMemory) ⊎ HasPassedLimit work

-- Why the verifier refuses a program, at a slot that begins an instruction. A program that is clear by the rules within
-- the limit of states is refused only for lack of memory, or of work if that is limited; so is a plain one, if the limit
-- is the greatest.
pub record IsUnsafe (program : Code) (limit : ℕ) (work : Option ℕ) (refusal : Refusal) : Type 0 where
  pub begins : Begins program.slots refusal.pc
  pub plain : limit ≡ 2 ^ 22 → IsPlain program.slots → IsMemoryOrWork work refusal.fault
  pub clear : IsClear program entry_view limit → IsMemoryOrWork work refusal.fault

-- The verifier refuses the program that the bytes spell.
pub record IsRefusedCode (bytes : List ℕ) (shapes : List Shape) (limit : ℕ) (work : Option ℕ) (answer : Answer) : Type 0 where
  pub program : Code
  pub spells : Spells bytes program
  pub shapes_are : program.shapes ≡ shapes
  pub refusal : Refusal
  pub why : IsUnsafe program limit work refusal
  pub number : answer.number ≡ rules.number_of refusal.fault
  pub slot : answer.slot ≡ refusal.pc

-- why bytes aren't admitted
abbrev pub IsRefused : List ℕ → List Shape → ℕ → Option ℕ → Answer → Type 0
IsRefused bytes shapes limit work answer = IsUndecoded bytes shapes answer ⊎ IsRefusedCode bytes shapes limit work answer

-- the program that is held
abbrev pub code_of : Option Content → Option Verified
code_of (Some (content.Code boxed)) = Some boxed.value
code_of _ = None

-- the content is an admitted program
abbrev pub HoldsAdmitted : ℕ → List ℕ → List MapShape → ℕ → Option Content → Type 0
HoldsAdmitted hook bytes shapes limit o =
    (a : Verified) × (h : Hook) × (code_of o ≡ Some a) × (hook ≡ number_of h) × IsAdmitted h bytes (map shape_of shapes) limit a

-- with a limit of work, the budget is at most an 80th of it, since each of its steps is earned by a state that is examined
abbrev pub IsWithinWork : Option ℕ → ℕ → Type 0
IsWithinWork work budget = (most : ℕ) → work ≡ Some most → 80 * budget ≤ most

-- the budget of a program; 0 without one
abbrev pub budget_in : Option Verified → ℕ
budget_in (Some a) = a.budget
budget_in None = 0

-- the budget of the program that is held
abbrev pub budget_of : Option Content → ℕ
budget_of o = budget_in (code_of o)

-- 0, or why the program isn't admitted
abbrev pub IsAdmittedOr : List ℕ → List Shape → ℕ → Option ℕ → Answer → Type 0
IsAdmittedOr bytes shapes limit work a = (a ≡ answer 0) ⊎ IsRefused bytes shapes limit work a

-- The answer of filling an empty handle with a program: 92 exactly if it isn't empty; otherwise perhaps 40; otherwise
-- 90 exactly if there is no such hook or the shapes are out of their limits; otherwise 0, or why the program isn't
-- admitted.
abbrev pub IsVerdict : ℕ → List ℕ → List MapShape → ℕ → Option ℕ → Option Content → Answer → Type 0
IsVerdict hook bytes shapes limit work o =
    UnlessNone o (answer 92) (Perhaps (answer 40) (Unless (IsAskable hook shapes) (answer 90) (IsAdmittedOr bytes (map shape_of shapes) limit work)))
