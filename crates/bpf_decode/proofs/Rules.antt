-- The lowest of an instruction's faults.
use Rattle.std.proofs.Common.{ℕ, ◌≡◌, ◌≤◌, ◌+◌, Bool, true, false, Option, Some, List, refl, arith}
use Rattle.std.specs.Prelude.{IfSome, IfNone, IsTrue, not, ◌↔◌}
use Rattle.bpf_insn.specs.declared.insn.Insn.{Insn}
use Rattle.bpf_regions.specs.declared.maps.Shape.{Shape}
use Rattle.bpf_decode.specs.declared.fault.SlotFault.{SlotFault}
use Rattle.bpf_decode.specs.Flow.{jump_of, size_of, ends, written, KnowsHelper, KnowsMap}
use Rattle.bpf_decode.specs.Code.{count, JumpsInside, RuleFault, Astray, PastEnd, FramePointer, Helper, UnknownMap}
use Rattle.bpf_decode.specs.Answer.{slot_number}
use Rattle.bpf_decode.specs.Checks.{lowest_fault}

-- which test finds which fault
pub record Tests (code : List ℕ) (shapes : List Shape) (k : ℕ) (i : Insn) (a b c d e : Bool) : Type 0 where
  pub astray : IsTrue a ↔ (JumpsInside code k (jump_of i) → ⊥)
  pub past : IsTrue b ↔ ((k + size_of i ≡ count code) × (ends i ≡ false))
  pub frame : IsTrue c ↔ (written i ≡ Some 10)
  pub helper : IsTrue d ↔ (KnowsHelper i → ⊥)
  pub map : IsTrue e ↔ (KnowsMap shapes i → ⊥)

pub record FindsLeast (code : List ℕ) (shapes : List Shape) (k : ℕ) (i : Insn) (r : Option SlotFault) : Type 0 where
  pub none : IfNone r ((n : ℕ) → RuleFault code shapes k i n → ⊥)
  pub some : IfSome r (λ e. RuleFault code shapes k i (slot_number e))
  pub least : IfSome r (λ e. (m : ℕ) → RuleFault code shapes k i m → slot_number e ≤ m)

above : (code : List ℕ) (shapes : List Shape) (k : ℕ) (i : Insn) (n : ℕ) (m : ℕ) → RuleFault code shapes k i m
    → ((JumpsInside code k (jump_of i) → ⊥) → n ≤ 15) → (k + size_of i ≡ count code → ends i ≡ false → n ≤ 16) → (written i ≡ Some 10 → n ≤ 17)
    → ((KnowsHelper i → ⊥) → n ≤ 18) → ((KnowsMap shapes i → ⊥) → n ≤ 19) → n ≤ m
above code shapes k i n m (Astray h) p q r s t = p h
above code shapes k i n m (PastEnd h e) p q r s t = q h e
above code shapes k i n m (FramePointer h) p q r s t = r h
above code shapes k i n m (Helper h) p q r s t = s h
above code shapes k i n m (UnknownMap h) p q r s t = t h

-- there is no fault if no test holds
clean : (code : List ℕ) (shapes : List Shape) (k : ℕ) (i : Insn) (m : ℕ) → RuleFault code shapes k i m
    → ((JumpsInside code k (jump_of i) → ⊥) → ⊥) → (k + size_of i ≡ count code → ends i ≡ false → ⊥) → (written i ≡ Some 10 → ⊥)
    → ((KnowsHelper i → ⊥) → ⊥) → ((KnowsMap shapes i → ⊥) → ⊥) → ⊥
clean code shapes k i m (Astray h) p q r s t = p h
clean code shapes k i m (PastEnd h e) p q r s t = q h e
clean code shapes k i m (FramePointer h) p q r s t = r h
clean code shapes k i m (Helper h) p q r s t = s h
clean code shapes k i m (UnknownMap h) p q r s t = t h

no : false ≡ true → ⊥
no e = cc

-- a negated test decides the negation
pub not_iff : (b : Bool) (P : Type 0) → (IsTrue b ↔ P) → (IsTrue (not b) ↔ (P → ⊥))
not_iff true P h = ((λ e. absurd cc), (λ n. absurd (n (h.0 refl))))
not_iff false P h = ((λ e p. no (h.1 p)), (λ n. refl))

pub finds : (code : List ℕ) (shapes : List Shape) (k : ℕ) (i : Insn) (a b c d e : Bool) → Tests code shapes k i a b c d e → FindsLeast code shapes k i (lowest_fault a b c d e)
finds code shapes k i true b c d e t =
    record { none = tt; some = Astray (t.astray.0 refl); least = λ m f. above code shapes k i 15 m f (λ h. omega arith) (λ h g. omega arith) (λ h. omega arith) (λ h. omega arith) (λ h. omega arith) }
finds code shapes k i false true c d e t =
    record { none = tt; some = PastEnd (t.past.0 refl).0 (t.past.0 refl).1; least = λ m f. above code shapes k i 16 m f (λ h. absurd (no (t.astray.1 h))) (λ h g. omega arith) (λ h. omega arith) (λ h. omega arith) (λ h. omega arith) }
finds code shapes k i false false true d e t =
    record { none = tt; some = FramePointer (t.frame.0 refl); least = λ m f. above code shapes k i 17 m f (λ h. absurd (no (t.astray.1 h))) (λ h g. absurd (no (t.past.1 (h, g)))) (λ h. omega arith) (λ h. omega arith) (λ h. omega arith) }
finds code shapes k i false false false true e t =
    record { none = tt; some = Helper (t.helper.0 refl); least = λ m f. above code shapes k i 18 m f (λ h. absurd (no (t.astray.1 h))) (λ h g. absurd (no (t.past.1 (h, g)))) (λ h. absurd (no (t.frame.1 h))) (λ h. omega arith) (λ h. omega arith) }
finds code shapes k i false false false false true t =
    record { none = tt; some = UnknownMap (t.map.0 refl); least = λ m f. above code shapes k i 19 m f (λ h. absurd (no (t.astray.1 h))) (λ h g. absurd (no (t.past.1 (h, g)))) (λ h. absurd (no (t.frame.1 h))) (λ h. absurd (no (t.helper.1 h))) (λ h. omega arith) }
finds code shapes k i false false false false false t =
    record { none = λ m f. clean code shapes k i m f (λ h. no (t.astray.1 h)) (λ h g. no (t.past.1 (h, g))) (λ h. no (t.frame.1 h)) (λ h. no (t.helper.1 h)) (λ h. no (t.map.1 h)); some = tt; least = tt }
