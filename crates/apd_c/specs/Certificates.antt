-- Certificates, as C sees them.
use Rattle.std.specs.Prelude.{◌≡◌, ◌⊎◌, ℕ, List, [], map, Option, Some}
use Rattle.bpf_regions.specs.declared.hooks.Hook.{Hook}
use Rattle.bpf_regions.specs.declared.maps.Shape.{Shape}
use Rattle.bpf_regions.specs.Hooks.{number_of}
use Rattle.bpf_decode.specs.Program.{Code, Begins, Spells}
use Rattle.bpf_model.specs.Run.{Safe}
use Rattle.bpf_machine.specs.Verified.{Verified}
use Rattle.bpf_rules.specs.Faults as rules
use Rattle.bpf_rules.specs.declared.fault.Fault.{Fault}
use Rattle.bpf_cert.specs.Certified.{Covered, Refuses}
use Rattle.bpf_cert.specs.Faults as faults
use Rattle.bpf_cert.specs.Limits.{HasPassedLimit}
use Rattle.bpf_cert.specs.declared.fault.CertFault.{CertFault}
use Rattle.apd_c.specs.declared.answer.Answer.{Answer}
use Rattle.apd_c.specs.declared.handle.Content.{Content}
use Rattle.apd_c.specs.declared.handle.Content.TheVariants as content
use Rattle.apd_c.specs.declared.shapes.MapShape.{MapShape}
use Rattle.apd_c.specs.Answers.{answer, Perhaps, Unless, UnlessNone, UnlessSome}
use Rattle.apd_c.specs.Given.{IsAskable, shape_of}
use Rattle.apd_c.specs.Code.{IsUndecoded, code_of}

-- the bytes that are held; none if the content is something else
abbrev pub bytes_of : Option Content → List ℕ
bytes_of (Some (content.Bytes v)) = v.items
bytes_of _ = []

-- the content is a program, which the bytes show safe within some budget
abbrev pub Certifies : Option Content → List ℕ → Type 0
Certifies code bytes = (a : Verified) × (code_of code ≡ Some a) × (b : ℕ) × Covered a.code a.hook bytes b

-- the handle holds such bytes
abbrev pub HoldsCertificate : Option Content → Option Content → Type 0
HoldsCertificate code o = Certifies code (bytes_of o)

-- The program that these bytes spell, for maps of these shapes and a hook, with a budget that the certificate shows.
pub record IsShown (hook : Hook) (bytes : List ℕ) (shapes : List Shape) (certificate : List ℕ) (a : Verified) : Type 0 where
  pub spells : Spells bytes a.code
  pub shapes_are : a.code.shapes ≡ shapes
  pub hook_is : a.hook ≡ hook
  pub covered : Covered a.code hook certificate a.budget
  pub safe : Safe a.code.slots a.code.shapes a.budget

-- the content is such a program
abbrev pub HoldsShown : ℕ → List ℕ → List MapShape → List ℕ → Option Content → Type 0
HoldsShown hook bytes shapes certificate o =
    (a : Verified) × (h : Hook) × (code_of o ≡ Some a) × (hook ≡ number_of h) × IsShown h bytes (map shape_of shapes) certificate a

-- The certificate doesn't show safe the program that the bytes spell, for the first of its faults, or an allocation
-- failed.
pub record IsUnshown (hook : Hook) (bytes : List ℕ) (shapes : List Shape) (certificate : List ℕ) (answer : Answer) : Type 0 where
  pub program : Code
  pub spells : Spells bytes program
  pub shapes_are : program.shapes ≡ shapes
  pub fault : CertFault
  pub refuses : Refuses program hook certificate fault
  pub number : answer.number ≡ faults.number_of fault

-- there is a limit of work, the work has passed it, and the answer is 36
abbrev pub IsTooMuchWork : Option ℕ → Answer → Type 0
IsTooMuchWork most a = HasPassedLimit most × (a ≡ answer 36)

-- 0, or why the program isn't admitted
abbrev pub IsShownOr : ℕ → List ℕ → List Shape → List ℕ → Option ℕ → Answer → Type 0
IsShownOr hook bytes shapes certificate most a =
    (a ≡ answer 0) ⊎ IsUndecoded bytes shapes a ⊎ ((h : Hook) × (hook ≡ number_of h) × IsUnshown h bytes shapes certificate a) ⊎ IsTooMuchWork most a

-- The answer of filling an empty handle by a certificate: 92 exactly if it isn't empty; otherwise perhaps 40; otherwise
-- 90 exactly if there is no such hook or the shapes are out of their limits; otherwise 0, or why the program isn't
-- admitted, which is 36 only if the work has passed its limit.
abbrev pub IsCheckVerdict : ℕ → List ℕ → List MapShape → List ℕ → Option ℕ → Option Content → Answer → Type 0
IsCheckVerdict hook bytes shapes certificate most o =
    UnlessNone o (answer 92) (Perhaps (answer 40) (Unless (IsAskable hook shapes) (answer 90) (IsShownOr hook bytes (map shape_of shapes) certificate most)))

-- A verifier's fault, or 40, at a slot that begins an instruction.
pub record IsUncertified (program : Verified) (answer : Answer) : Type 0 where
  pub why : Fault
  pub begins : Begins program.code.slots answer.slot
  pub number : answer.number ≡ rules.number_of why

-- 0, or why the program has no certificate
abbrev pub IsCertifiedOr : Verified → Answer → Type 0
IsCertifiedOr program = Perhaps (answer 40) (λ a. (a ≡ answer 0) ⊎ IsUncertified program a)

-- The answer of filling an empty handle with a certificate: 92 exactly if it isn't empty; otherwise 91 exactly if the
-- other handle holds no program; otherwise 0, or why there is none.
abbrev pub IsCertifyAnswer : Option Content → Option Content → Answer → Type 0
IsCertifyAnswer code o = UnlessNone o (answer 92) (UnlessSome (code_of code) (answer 91) IsCertifiedOr)
