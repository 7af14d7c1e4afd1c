-- Why no certificate was made.
use Rattle.std.proofs.Common.{◌≡◌, ℕ, None, Result, Ok, Err, IfErr, inl, inr, refl, sym, subst}
use Rattle.bpf_decode.specs.Program.{Code, Begins}
use Rattle.bpf_prune.specs.Spending.{Tally, HasPassed, unspent}
use Rattle.bpf_verifier.specs.Limits.{IsStateLimit}
use Rattle.bpf_verifier.specs.declared.refusal.Refusal.{Refusal}
use Rattle.bpf_verifier.proofs.Admitting.{ample_most, by_memory}
use Rattle.bpf_cert.specs.declared.fault.CertFault.{CertFault}
use Rattle.bpf_cert.specs.declared.limit.WithinFault.{WithinFault}
use Rattle.bpf_cert.specs.declared.limit.WithinFault.TheVariants as within
use Rattle.bpf_cert.specs.declared.fault.CertFault.TheVariants as fault
use Rattle.bpf_cert.specs.declared.limit.Stop.{Stop}
use Rattle.bpf_cert.specs.declared.limit.Stop.TheVariants as stop
use Rattle.bpf_cert_format.specs.declared.fault.WriteFault.{WriteFault}
use Rattle.bpf_cert_format.specs.declared.fault.WriteFault.TheVariants as write
use Rattle.bpf_cert.specs.Limits.{Within, IsStop, fault_of, fault_written, fault_within}
use Rattle.bpf_cert.specs.Certified.{IsUncertified, IsUncertifiedAfter, IsUnmade, ByMemory, ByWork, Unfit, Unexplored, Unwritten}

-- a refusal at slot 0
pub at_start : (program : Code) (limit : ℕ) (old new : Tally) (e : Refusal) → Begins program.slots 0 → e.pc ≡ 0 → IsUnmade new e.fault → IsUncertifiedAfter program limit old new e
at_start program limit old new e first start why = Unwritten (subst (λ pc. Begins program.slots pc) (sym start) first) start why

pub all_at_start : {T : Type 0} (program : Code) (limit : ℕ) (old new : Tally) (r : Result T Refusal) → Begins program.slots 0 → IfErr r (λ e. e.pc ≡ 0) → IfErr r (λ e. IsUnmade new e.fault) → IfErr r (IsUncertifiedAfter program limit old new)
all_at_start program limit old new (Ok x) first start why = start
all_at_start program limit old new (Err e) first start why = at_start program limit old new e first start why

-- why entries weren't found, written or believed
pub unfound : (w : Tally) (s : Stop) → IsStop (HasPassed w) s → IsUnmade w (fault_of s)
unfound w stop.NoMemory h = ByMemory refl
unfound w stop.TooMuchWork h = ByWork refl h

pub unwritten : (w : Tally) (f : WriteFault) → IsUnmade w (fault_written f)
unwritten w write.Memory = ByMemory refl
unwritten w write.TooLarge = Unfit refl

pub unmade : {X : Type 0} (w : Tally) (P : Result X CertFault → Type 0) (f : WithinFault) → Within (HasPassed w) P (Err f) → IsUnmade w (fault_within f)
unmade w P (within.Refused fault.NoMemory) h = ByMemory refl
unmade w P (within.Refused fault.Malformed) h = Unfit refl
unmade w P (within.Refused fault.Other) h = Unfit refl
unmade w P (within.Refused fault.NotCovered) h = Unfit refl
unmade w P within.TooMuchWork h = ByWork refl h

-- with ample work
ample : (program : Code) (limit : ℕ) (w : Tally) (e : Refusal) → IsStateLimit limit → IsUncertifiedAfter program limit (unspent 18446744073709551615) w e → IsUncertified program limit e
ample program limit w e is (Unexplored spent after due) = record {
  begins = after.begins;
  clear = λ clear. inl (by_memory (record { states = limit; work = None }) w e.fault (ample_most limit is) spent (after.clear clear));
}
ample program limit w e is (Unwritten begins start why) = record { begins = begins; clear = λ clear. inr start }

pub amply : {T : Type 0} (program : Code) (limit : ℕ) (w : Tally) (r : Result T Refusal) → IsStateLimit limit → IfErr r (IsUncertifiedAfter program limit (unspent 18446744073709551615) w) → IfErr r (IsUncertified program limit)
amply program limit w (Ok x) is h = h
amply program limit w (Err e) is h = ample program limit w e is h
