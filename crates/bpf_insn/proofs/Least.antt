-- The least of several faults.
use Rattle.std.proofs.Common.{ℕ, ◌≡◌, ◌⊎◌, ⊎_elim, inl, inr, true, false, Bool, cond, Some, None, Option, refl, sym, ap, subst, ◌∙◌, arith}
use Rattle.std.specs.Prelude.{ℤ, pos, nat_le, IfSome, IfNone}
use Rattle.std.proofs.lemmas.Bool.{leb-true, leb-false}
use Rattle.bpf_insn.specs.declared.fault.FieldFault.{FieldFault}
use Rattle.bpf_insn.specs.declared.fields.Fields.{Fields}
use Rattle.bpf_insn.specs.declared.kind.Kind.{Kind}
use Rattle.bpf_insn.specs.declared.kind.Kind.TheVariants as kind
use Rattle.bpf_insn.specs.declared.kind.Use.{Use}
use Rattle.bpf_insn.specs.declared.kind.Uses.{Uses}
use Rattle.bpf_insn.specs.Kinds.{kind_at}
use Rattle.bpf_insn.specs.Uses.{Meets, uses_of}
use Rattle.bpf_insn.specs.Faults.{Broken, InFields, InHalf, InSecond, IsLeast, number_of}
use Rattle.bpf_insn.specs.Reading.{Fine, HalfFine, IsFineHalf, least_of, InKind, ReadsFault}

-- a search for a fault of P finds the least, or nothing, and then F holds, which excludes all faults of P
pub record Finds (P : FieldFault → Type 0) (F : Type 0) (r : Option FieldFault) : Type 0 where
  pub none : IfNone r F
  pub clean : F → (g : FieldFault) → P g → ⊥
  pub some : IfSome r (IsLeast P)

abbrev pub Either : (FieldFault → Type 0) → (FieldFault → Type 0) → FieldFault → Type 0
Either P Q g = P g ⊎ Q g

least_both : (P Q : FieldFault → Type 0) (a b : FieldFault) → IsLeast P a → IsLeast Q b → (t : Bool) → nat_le (number_of a) (number_of b) ≡ t → IfSome (cond t (Some a) (Some b)) (IsLeast (Either P Q))
least_both P Q a b p q true e =
    let le = leb-true (number_of a) (number_of b) e in
    record { is_fault = inl p.is_fault; least = λ g. ⊎_elim (λ h. p.least g h) (λ h. let k = q.least g h in omega arith) }
least_both P Q a b p q false e =
    let lt = leb-false (number_of a) (number_of b) e in
    record { is_fault = inr q.is_fault; least = λ g. ⊎_elim (λ h. let k = p.least g h in omega arith) (λ h. q.least g h) }

least_none : (F G : Type 0) (a b : FieldFault) (t : Bool) → IfNone (cond t (Some a) (Some b)) (F × G)
least_none F G a b true = tt
least_none F G a b false = tt

pub finds_both : (P Q : FieldFault → Type 0) (F G : Type 0) (a b : Option FieldFault) → Finds P F a → Finds Q G b → Finds (Either P Q) (F × G) (least_of a b)
finds_both P Q F G None None p q =
    record { none = (p.none, q.none); clean = λ fg g. ⊎_elim (p.clean fg.0 g) (q.clean fg.1 g); some = tt }
finds_both P Q F G None (Some b) p q =
    record {
      none = tt;
      clean = λ fg g. ⊎_elim (p.clean fg.0 g) (q.clean fg.1 g);
      some = record { is_fault = inr q.some.is_fault; least = λ g. ⊎_elim (λ h. absurd (p.clean p.none g h)) (q.some.least g) };
    }
finds_both P Q F G (Some a) None p q =
    record {
      none = tt;
      clean = λ fg g. ⊎_elim (p.clean fg.0 g) (q.clean fg.1 g);
      some = record { is_fault = inl p.some.is_fault; least = λ g. ⊎_elim (p.some.least g) (λ h. absurd (q.clean q.none g h)) };
    }
finds_both P Q F G (Some a) (Some b) p q =
    record {
      none = least_none F G a b (nat_le (number_of a) (number_of b));
      clean = λ fg g. ⊎_elim (p.clean fg.0 g) (q.clean fg.1 g);
      some = least_both P Q a b p.some q.some (nat_le (number_of a) (number_of b)) refl;
    }

broken_least : (u : Use) (v : ℤ) (e : FieldFault) → Broken u v e → IsLeast (Broken u v) e
broken_least u v e b = record { is_fault = b; least = λ g h. let same : number_of e ≡ number_of g = ap number_of (b.1 ∙ sym h.1) in omega arith }

finds_value : (u : Use) (v : ℤ) (r : Option FieldFault) → IfNone r (Meets u v) → IfSome r (Broken u v) → Finds (Broken u v) (Meets u v) r
finds_value u v None n s = record { none = n; clean = λ m g h. h.0 m; some = tt }
finds_value u v (Some e) n s = record { none = tt; clean = λ m g h. h.0 m; some = broken_least u v e s }

pub finds_field : (u : Use) (v w : ℤ) (r : Option FieldFault) → w ≡ v → IfNone r (Meets u w) → IfSome r (Broken u w) → Finds (Broken u v) (Meets u v) r
finds_field u v w r e n s = subst (λ x. Finds (Broken u x) (Meets u x) r) e (finds_value u w r n s)

half_clean : (s : ℕ) (h : Option Fields) → HalfFine s h → (g : FieldFault) → InHalf s h g → ⊥
half_clean s None fine g bad = fine
half_clean s (Some f) fine g bad = ⊎_elim (λ p. p.1 (fine.1 p.0)) (λ p. p.0 fine.0) bad

second_clean : (k : Kind) (f : Fields) (h : Option Fields) → IsFineHalf k f h → (g : FieldFault) → InSecond k f h g → ⊥
second_clean kind.LoadWide f h fine g bad = half_clean f.src h fine g bad
second_clean (kind.Alu op w r) f h fine g bad = bad
second_clean (kind.Neg w) f h fine g bad = bad
second_clean (kind.End o) f h fine g bad = bad
second_clean (kind.Branch c w r) f h fine g bad = bad
second_clean kind.Jump f h fine g bad = bad
second_clean kind.JumpLong f h fine g bad = bad
second_clean kind.Call f h fine g bad = bad
second_clean kind.Exit f h fine g bad = bad
second_clean (kind.Load z s) f h fine g bad = bad
second_clean (kind.Store z r) f h fine g bad = bad
second_clean (kind.Atomic w) f h fine g bad = bad

-- all faults of a slot of a known kind
abbrev pub InSlot : Uses → Kind → Fields → Option Fields → FieldFault → Type 0
InSlot u k f h g = InFields u f g ⊎ InSecond k f h g

abbrev pub AllFine : Uses → Kind → Fields → Option Fields → Type 0
AllFine u k f h = (Meets u.dst (pos f.dst) × (Meets u.src (pos f.src) × (Meets u.offset f.offset × Meets u.imm f.imm))) × IsFineHalf k f h

pub finds_first : (u : Uses) (k : Kind) (f : Fields) (h : Option Fields) (dst src offset imm second : Option FieldFault)
    → Finds (Broken u.dst (pos f.dst)) (Meets u.dst (pos f.dst)) dst
    → Finds (Broken u.src (pos f.src)) (Meets u.src (pos f.src)) src
    → Finds (Broken u.offset f.offset) (Meets u.offset f.offset) offset
    → Finds (Broken u.imm f.imm) (Meets u.imm f.imm) imm
    → IfNone second (IsFineHalf k f h) → IfSome second (IsLeast (InSecond k f h))
    → Finds (InSlot u k f h) (AllFine u k f h) (least_of (least_of dst (least_of src (least_of offset imm))) second)
finds_first u k f h dst src offset imm second fd fs fo fi n s =
    finds_both (InFields u f) (InSecond k f h) _ _ (least_of dst (least_of src (least_of offset imm))) second
    (finds_both (Broken u.dst (pos f.dst)) (λ e. Broken u.src (pos f.src) e ⊎ (Broken u.offset f.offset e ⊎ Broken u.imm f.imm e)) _ _ dst (least_of src (least_of offset imm)) fd
    (finds_both (Broken u.src (pos f.src)) (λ e. Broken u.offset f.offset e ⊎ Broken u.imm f.imm e) _ _ src (least_of offset imm) fs
    (finds_both (Broken u.offset f.offset) (Broken u.imm f.imm) _ _ offset imm fo fi)))
    (record { none = n; clean = second_clean k f h; some = s })

pub all_fine : (r : Option FieldFault) (u : Uses) (k : Kind) (f : Fields) (h : Option Fields) → IfNone r (AllFine u k f h) → IfNone r (Fine u f)
all_fine None u k f h n = record { dst = n.0.0; src = n.0.1.0; offset = n.0.1.1.0; imm = n.0.1.1.1 }
all_fine (Some e) u k f h n = tt

fine_clean : (u : Uses) (f : Fields) → Fine u f → (g : FieldFault) → InFields u f g → ⊥
fine_clean u f fine g = ⊎_elim (λ b. b.0 fine.dst) (⊎_elim (λ b. b.0 fine.src) (⊎_elim (λ b. b.0 fine.offset) (λ b. b.0 fine.imm)))

-- fields that are read have no fault
pub fine_faultless : (k : Kind) (f : Fields) (h : Option Fields) → kind_at f.opcode ≡ Some k → Fine (uses_of k) f → IsFineHalf k f h → (e : FieldFault) → ReadsFault f h e → ⊥
fine_faultless k f h known fine half e bad =
    let b : InKind (Some k) f h e = subst (λ o. InKind o f h e) known bad in
    ⊎_elim (fine_clean (uses_of k) f fine e) (second_clean k f h half e) b
