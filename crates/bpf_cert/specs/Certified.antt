-- When a certificate's bytes show that a program is safe.
use Rattle.std.specs.Prelude.{◌≡◌, ◌⊎◌, ◌≤◌, ◌^◌, ℕ, ◌+◌, ◌*◌, ℤ, List, drop, length, map, Result, Ok, Err, Option, Some, IfSome, MatchOption, ◌<◌}
use Rattle.std.specs.List.{All}
use Rattle.bpf_insn.specs.declared.insn.Insn.TheVariants as insn
use Rattle.bpf_regions.specs.declared.hooks.Hook.{Hook}
use Rattle.bpf_decode.specs.Program.{Code, Holds, Begins, Spells as SpellsCode}
use Rattle.bpf_machine.specs.Verified.{Verified}
use Rattle.bpf_absstate.specs.View.{entry_view}
use Rattle.bpf_plain.specs.Clear.{IsClear}
use Rattle.bpf_rules.specs.declared.fault.Fault.{Fault}
use Rattle.bpf_rules.specs.declared.fault.Fault.TheVariants as fault
use Rattle.bpf_prune.specs.Spending.{Tally, CountsAll, HasPassed}
use Rattle.bpf_verifier.specs.Admission.{IsRefusalAfter}
use Rattle.bpf_verifier.specs.Causes.{IsDue}
use Rattle.bpf_verifier.specs.Spent.{IsSpent}
use Rattle.bpf_verifier.specs.Limits.{units_of}
use Rattle.bpf_verifier.specs.declared.limit.Limits.{Limits}
use Rattle.bpf_verifier.specs.declared.refusal.Refusal.{Refusal}
use Rattle.bpf_cert_format.specs.Answers.{Spells}
use Rattle.bpf_cert_format.specs.declared.frame.Frame.{Frame}
use Rattle.bpf_cert_format.specs.Views.{EntryView, CertificateView}
use Rattle.bpf_cert.specs.declared.fault.CertFault.{CertFault}
use Rattle.bpf_cert.specs.declared.fault.CertFault.TheVariants.{NoMemory, Malformed, Other, NotCovered}
use Rattle.bpf_cert.specs.Covered.{AreCovered}
use Rattle.bpf_cert.specs.Limits.{CountsMore}
use Rattle.bpf_cert.specs.States.{claim_of}

-- the certificate is for this hook and this code
pub record IsFor (c : Code) (h : Hook) (x : CertificateView) : Type 0 where
  pub hook : x.hook ≡ h
  pub code : SpellsCode x.code c

-- the slot immediately follows a local call
abbrev pub FollowsCall : Code → ℕ → Type 0
FollowsCall c t = (k : ℕ) × (x : ℤ) × Holds c.slots k (insn.CallLocal x) × (t ≡ k + 1)

-- each of these functions returns to such a slot
abbrev pub AllFollow : Code → List Frame → Type 0
AllFollow c fs = All (λ f. FollowsCall c f.return_slot) fs

-- each function of the entry except the main one does
abbrev pub ReturnsWell : Code → EntryView → Type 0
ReturnsWell c e = AllFollow c (drop 1 e.frames)

-- The entries show that the program ends within b instructions, at most 2^22.
pub record Shows (c : Code) (es : List EntryView) (b : ℕ) : Type 0 where
  pub returns : All (ReturnsWell c) es
  pub covered : AreCovered c (map claim_of es) b
  pub small : b ≤ 2 ^ 22

-- The bytes are a certificate for this code and hook, whose entries show b.
pub record Covered (c : Code) (hook : Hook) (bytes : List ℕ) (b : ℕ) : Type 0 where
  pub certificate : CertificateView
  pub spelled : Spells c.shapes bytes certificate
  pub is_for : IsFor c hook certificate
  pub shows : Shows c certificate.entries b

-- with some budget, the bytes show that the program is safe
abbrev pub IsCertificate : Verified → List ℕ → Type 0
IsCertificate a bytes = (b : ℕ) × Covered a.code a.hook bytes b

-- A refusal at an instruction. A program that is clear by the rules within the limit of states is refused only for lack
-- of memory, or at slot 0.
pub record IsUncertified (program : Code) (limit : ℕ) (refusal : Refusal) : Type 0 where
  pub begins : Begins program.slots refusal.pc
  pub clear : IsClear program entry_view limit → (refusal.fault ≡ fault.NoMemory) ⊎ (refusal.pc ≡ 0)

-- Why the states that were found gave no certificate, with the work after: lack of memory; 36, since the work has passed
-- the limit; or 36, since they don't fit a certificate, or it doesn't show the program safe.
pub data IsUnmade (new : Tally) (why : Fault) : Type 0 where
  ByMemory : why ≡ fault.NoMemory → IsUnmade new why
  ByWork : why ≡ fault.TooManyVisits → HasPassed new → IsUnmade new why
  Unfit : why ≡ fault.TooManyVisits → IsUnmade new why

-- Why no certificate was made, with the work before and after: the exploration refused the program, for one of the causes
-- of `IsDue`; or its states gave no certificate, which is refused at slot 0.
pub data IsUncertifiedAfter (program : Code) (limit : ℕ) (old new : Tally) (refusal : Refusal) : Type 0 where
  Unexplored : IsSpent limit old new → IsRefusalAfter program limit new refusal → IsDue program limit old new refusal →
      IsUncertifiedAfter program limit old new refusal
  Unwritten : Begins program.slots refusal.pc → refusal.pc ≡ 0 → IsUnmade new refusal.fault →
      IsUncertifiedAfter program limit old new refusal

-- The same within limits of states and of work; some of the work may have been done before.
pub record IsUncertifiedWithin (program : Code) (limits : Limits) (refusal : Refusal) : Type 0 where
  pub before : Tally
  pub tally : Tally
  pub most : before.most ≡ units_of limits.work
  pub counted : CountsAll tally
  pub after : IsUncertifiedAfter program limits.states before tally refusal

-- why bytes are refused: the first of these that applies; lack of memory says nothing
abbrev pub Refuses : Code → Hook → List ℕ → CertFault → Type 0
Refuses c hook bytes NoMemory = Unit {0}
Refuses c hook bytes Malformed = (x : CertificateView) → Spells c.shapes bytes x → ⊥
Refuses c hook bytes Other = (x : CertificateView) × Spells c.shapes bytes x × (IsFor c hook x → ⊥)
Refuses c hook bytes NotCovered =
    (x : CertificateView) × Spells c.shapes bytes x × IsFor c hook x × ((b : ℕ) → Shows c x.entries b → ⊥)

-- the result is that budget, unless memory ran out
abbrev pub Answers : Result ℕ CertFault → ℕ → Type 0
Answers (Ok n) b = n ≡ b
Answers (Err NoMemory) b = Unit {0}
Answers (Err _) b = ⊥

-- the program is admitted with that budget, unless memory ran out
abbrev pub Admits : Result Verified CertFault → ℕ → Type 0
Admits (Ok a) b = a.budget ≡ b
Admits (Err NoMemory) b = Unit {0}
Admits (Err _) b = ⊥

-- the given program is admitted, with a budget that is shown
pub record IsAdmitted (c : Code) (h : Hook) (bytes : List ℕ) (a : Verified) : Type 0 where
  pub code : a.code ≡ c
  pub hook : a.hook ≡ h
  pub covered : Covered c h bytes a.budget

-- The bytes spell a certificate, and with a limit of work a state is examined, and counted, for each of its entries.
pub record CountsEntries (c : Code) (bytes : List ℕ) (limit : Option ℕ) (old new : ℕ) : Type 0 where
  pub certificate : CertificateView
  pub spelled : Spells c.shapes bytes certificate
  pub each : CountsMore limit (length certificate.entries) old new

-- The bytes spell a certificate, each entry of which takes 80 units of the limit at least.
pub record HasFewEntries (c : Code) (bytes : List ℕ) (limit : Option ℕ) : Type 0 where
  pub certificate : CertificateView
  pub spelled : Spells c.shapes bytes certificate
  pub few : (most : ℕ) → limit ≡ Some most → 80 * length certificate.entries ≤ most

-- the number for which P holds, or none if there is none
abbrev pub Finds : Option ℕ → (ℕ → Type 0) → Type 0
Finds o P = MatchOption o ((n : ℕ) → P n → ⊥) P

-- the same number, if it is at most that limit
abbrev pub KeepsWithin : ℕ → Option ℕ → Option ℕ → Type 0
KeepsWithin most o r = MatchOption r (IfSome o (λ n. most < n)) (λ n. (o ≡ Some n) × (n ≤ most))

-- an instruction begins at the entry's slot, and its functions return to slots after local calls
pub record StandsWell (c : Code) (e : EntryView) : Type 0 where
  pub begins : Begins c.slots e.pc
  pub returns : ReturnsWell c e
