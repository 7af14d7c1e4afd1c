-- From parts of an answer to the answer.
use Rattle.std.proofs.Common.{◌≡◌, ℕ, List, Option, Result, Err, IfOk, IfErr, IsUtf8, take, ap, sym, subst}
use Rattle.std.specs.Str.Lossy.{utf8_valid_len}
use Rattle.std.proofs.lemmas.Result.{IfOk-weaker}
use Rattle.bpf_regions.specs.declared.hooks.Hook.{Hook}
use Rattle.bpf_regions.specs.declared.maps.Shape.{Shape}
use Rattle.bpf_decode.specs.Program as decoded
use Rattle.bpf_decode.specs.Answer.{Refuses}
use Rattle.bpf_decode.specs.declared.fault.DecodeFault.{DecodeFault}
use Rattle.bpf_machine.specs.Verified.{Verified}
use Rattle.bpf_text.specs.declared.fault.AsmFault.TheVariants as asm_fault
use Rattle.bpf_verifier.specs.Admission.{IsRefusalWithin}
use Rattle.bpf_verifier.specs.declared.limit.Limits.{Limits}
use Rattle.bpf_verifier.specs.declared.refusal.Refusal.{Refusal}
use Rattle.bpf_cert.specs.Certified as shown
use Rattle.bpf_cert.specs.Certified.{IsUncertifiedWithin}
use Rattle.bpf_cert.specs.Limits.{Within, HasPassedLimit}
use Rattle.bpf_cert.specs.declared.fault.CertFault.{CertFault}
use Rattle.bpf_cert.specs.declared.fault.CertFault.TheVariants as cert_fault
use Rattle.bpf_cert.specs.declared.limit.WithinFault.{WithinFault}
use Rattle.bpf_cert.specs.declared.limit.WithinFault.TheVariants as within
use Rattle.apd_text.specs.Trace.{IsTrace}
use Rattle.apd_program.specs.declared.answer.Answer.{Answer}
use Rattle.apd_program.specs.declared.answer.Answer.TheVariants.{Accepted, Code, Instructions, RefusedGraph, Run, Verdicts, Differences, CutVerdicts, Page, Script, CutScript, Tested, Help, Fault, Refused, LineFault, Certificate, Unaccepted}
use Rattle.apd_program.specs.declared.fault.ProgramFault.{ProgramFault}
use Rattle.apd_program.specs.Programs.{IsOfProgram, Undecoded, Decoded}
use Rattle.apd_program.specs.Refusing.{IsUndecoded, IsRefused, IsUnaccepted}
use Rattle.apd_program.specs.Verifying.{IsVerdict, NotAdmitted}
use Rattle.apd_program.specs.Certifying.{IsCertificate, Unsafe, NotMade, IsChecked, NotShown, NotDone}
use Rattle.apd_program.specs.Texts.{BreaksOff, broken_off, IsAssembly, Broken}

module _ (says : decoded.Code → Answer → Type 0) (code : List ℕ) (shapes : List Shape) (r : Result Answer ProgramFault) where
  pub IsOfProgram-decoded : (p : decoded.Code) → decoded.Spells code p → p.shapes ≡ shapes → IfOk r (says p) → IfOk r (IsOfProgram says code shapes)
  IsOfProgram-decoded p spelled same said = IfOk-weaker r (says p) (IsOfProgram says code shapes) (λ a h. Decoded p a spelled same h) said

  pub IsOfProgram-undecoded : (e : DecodeFault) → Refuses code shapes e → IfOk r (IsUndecoded e) → IfOk r (IsOfProgram says code shapes)
  IsOfProgram-undecoded e refuses told =
      let P : Answer → Type 0 = IsOfProgram says code shapes in
      IfOk-weaker r (IsUndecoded e) P (λ a h. subst P (sym h.0) (Undecoded e h.1 refuses)) told

pub IsVerdict-refused : (limits : Limits) (says : decoded.Code → ℕ → Answer → Type 0) (p : decoded.Code) (r : Result Answer ProgramFault) (e : Refusal) → IsRefusalWithin p limits e
    → IfOk r (IsRefused e) → IfOk r (IsVerdict limits says p)
IsVerdict-refused limits says p r e refusal told =
    let P : Answer → Type 0 = IsVerdict limits says p in
    IfOk-weaker r (IsRefused e) P (λ a h. subst P (sym h.0) (NotAdmitted e h.1 refusal)) told

pub IsCertificate-refused : (limits : Limits) (hook : Hook) (p : decoded.Code) (r : Result Answer ProgramFault) (e : Refusal) → IsRefusalWithin p limits e
    → IfOk r (IsRefused e) → IfOk r (IsCertificate limits hook p)
IsCertificate-refused limits hook p r e refusal told =
    let P : Answer → Type 0 = IsCertificate limits hook p in
    IfOk-weaker r (IsRefused e) P (λ a h. subst P (sym h.0) (Unsafe e h.1 refusal)) told

pub IsCertificate-unmade : (limits : Limits) (hook : Hook) (p : decoded.Code) (r : Result Answer ProgramFault) (e : Refusal) → IsUncertifiedWithin p limits e
    → IfOk r (IsRefused e) → IfOk r (IsCertificate limits hook p)
IsCertificate-unmade limits hook p r e refusal told =
    let P : Answer → Type 0 = IsCertificate limits hook p in
    IfOk-weaker r (IsRefused e) P (λ a h. subst P (sym h.0) (NotMade e h.1 refusal)) told

-- why a certificate isn't accepted within a limit of work
abbrev IsReason : Hook → List ℕ → Option ℕ → decoded.Code → WithinFault → Type 0
IsReason hook bytes work p e = Within (HasPassedLimit work) (λ (r : Result Verified CertFault). IfErr r (shown.Refuses p hook bytes)) (Err e)

unaccepted : (hook : Hook) (bytes : List ℕ) (work : Option ℕ) (p : decoded.Code) (e : WithinFault) → (e ≡ within.Refused cert_fault.NoMemory → ⊥) → IsReason hook bytes work p e → IsChecked hook bytes work p (Unaccepted e)
unaccepted hook bytes work p (within.Refused f) other why = NotShown f (λ is. other (ap within.Refused is)) why
unaccepted hook bytes work p within.TooMuchWork other why = NotDone why

pub IsChecked-refused : (hook : Hook) (bytes : List ℕ) (work : Option ℕ) (p : decoded.Code) (r : Result Answer ProgramFault) (e : WithinFault) → IsReason hook bytes work p e
    → IfOk r (IsUnaccepted e) → IfOk r (IsChecked hook bytes work p)
IsChecked-refused hook bytes work p r e why told =
    let P : Answer → Type 0 = IsChecked hook bytes work p in
    IfOk-weaker r (IsUnaccepted e) P (λ a h. subst P (sym h.0) (unaccepted hook bytes work p e h.1 why)) told

pub IsTrace-of : (accepted : Verified) (p : decoded.Code) (hook : Hook) (frame context : List ℕ) (draw : ℕ) (text : List ℕ) → accepted.code ≡ p → accepted.hook ≡ hook → IsTrace accepted frame context draw text
    → IsTrace (record { code = p; hook = hook; budget = accepted.budget }) frame context draw text
IsTrace-of accepted p hook frame context draw text code served run =
    let OfCode : decoded.Code → Type 0 = λ c. IsTrace (record { code = c; hook = accepted.hook; budget = accepted.budget }) frame context draw text in
    let OfHook : Hook → Type 0 = λ h. IsTrace (record { code = p; hook = h; budget = accepted.budget }) frame context draw text in
    subst OfHook served (subst OfCode code run)

pub IsAssembly-broken : (text front : List ℕ) (a : Answer) → (IsUtf8 text → ⊥) → front ≡ take (utf8_valid_len text) text → BreaksOff front a → IsAssembly text a
IsAssembly-broken text front (LineFault (asm_fault.Line line number)) bad same breaks =
    let P : List ℕ → Type 0 = λ t. broken_off t ≡ (line, number) in
    Broken line number bad (subst P same breaks)
IsAssembly-broken text front (LineFault asm_fault.NoMemory) bad same breaks = absurd breaks
IsAssembly-broken text front (Accepted budget) bad same breaks = absurd breaks
IsAssembly-broken text front (Code code) bad same breaks = absurd breaks
IsAssembly-broken text front (Instructions listing) bad same breaks = absurd breaks
IsAssembly-broken text front (RefusedGraph graph e) bad same breaks = absurd breaks
IsAssembly-broken text front (Run lines) bad same breaks = absurd breaks
IsAssembly-broken text front (Verdicts lines) bad same breaks = absurd breaks
IsAssembly-broken text front (Differences lines differs) bad same breaks = absurd breaks
IsAssembly-broken text front (CutVerdicts lines f) bad same breaks = absurd breaks
IsAssembly-broken text front (Page lines) bad same breaks = absurd breaks
IsAssembly-broken text front (Script lines) bad same breaks = absurd breaks
IsAssembly-broken text front (CutScript lines f) bad same breaks = absurd breaks
IsAssembly-broken text front (Tested lines is_good) bad same breaks = absurd breaks
IsAssembly-broken text front (Help lines) bad same breaks = absurd breaks
IsAssembly-broken text front (Fault e) bad same breaks = absurd breaks
IsAssembly-broken text front (Refused e) bad same breaks = absurd breaks
IsAssembly-broken text front (Certificate bytes) bad same breaks = absurd breaks
IsAssembly-broken text front (Unaccepted e) bad same breaks = absurd breaks
