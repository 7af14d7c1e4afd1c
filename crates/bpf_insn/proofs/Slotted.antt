-- Slots are read as an instruction exactly if they spell it.
use Rattle.std.proofs.Common.{ℕ, ◌≡◌, List, Some, None, Option, Result, Ok, Err, refl, sym, ap, subst, ◌∙◌, arith, ◌/◌, ◌^◌}
use Rattle.std.specs.Prelude.{pos, IfOk, IfErr}
use Rattle.bpf_insn.specs.declared.fields.Fields.{Fields}
use Rattle.bpf_insn.specs.declared.fault.FieldFault.{FieldFault}
use Rattle.bpf_insn.specs.declared.insn.Insn.{Insn}
use Rattle.bpf_insn.specs.declared.insn.Insn.TheVariants as insn
use Rattle.bpf_insn.specs.declared.insn.Wide.{Wide}
use Rattle.bpf_insn.specs.declared.insn.Wide.TheVariants as wide
use Rattle.bpf_insn.specs.declared.kind.Kind.{Kind}
use Rattle.bpf_insn.specs.Slot.{slot_of, half_at, FitsSlot}
use Rattle.bpf_insn.specs.Kinds.{kind_at}
use Rattle.bpf_insn.specs.Faults.{IsLeast}
use Rattle.bpf_insn.specs.Reading.{ReadAs, insn_at, half_imm, IsHalfOf, ReadsFault}
use Rattle.bpf_insn.specs.Spelled.{fields, fields_of, second_of, wide_high, IsInsn, IsWide, IsSecond, Spelled, second_slot_of}
use Rattle.bpf_insn.proofs.Slots.{fields_back, fields_same}
use Rattle.bpf_insn.proofs.Least.{fine_faultless}
use Rattle.bpf_insn.proofs.Again.{Again, IsAfter, again, signed_fits, zero16, zero32}
use Rattle.bpf_insn.proofs.Found.{HalfFits, found}

some_slot : (f g : Fields) → g ≡ f → Some (slot_of g) ≡ Some (slot_of f)
some_slot f g e = ap (λ (x : Fields). Some (slot_of x)) e

after_second : (o g : Option Fields) (s : Option (List ℕ)) → IsAfter o g → IsHalfOf g s → IsSecond o s
after_second None g s a h = tt
after_second (Some f) None s a h = absurd cc
after_second (Some f) (Some g) s a h = let e : g ≡ f = cc in h ∙ some_slot f g e

high_fits : (v : Wide) → IsWide v → FitsSlot (fields 0 0 0 (pos 0) (wide_high v))
high_fits (wide.Number n) h = record { opcode = omega arith; dst = omega arith; src = omega arith; offset = zero16; imm = signed_fits (n / 2 ^ 32) (omega arith) }
high_fits (wide.Map m) h = record { opcode = omega arith; dst = omega arith; src = omega arith; offset = zero16; imm = zero32 }
high_fits (wide.MapValue m o) h = record { opcode = omega arith; dst = omega arith; src = omega arith; offset = zero16; imm = signed_fits o h.1 }

second_after : (i : Insn) (s : Option (List ℕ)) → IsInsn i → IsSecond (second_of i) s → IsAfter (second_of i) (half_at s)
second_after (insn.LoadWide d v) s h e = ap half_at e ∙ ap (λ (f : Fields). Some f) (fields_back _ (high_fits v h.1))
second_after (insn.Alu op w d src) s h e = tt
second_after (insn.MovSx bits w d src) s h e = tt
second_after (insn.Neg w d) s h e = tt
second_after (insn.End order bits d) s h e = tt
second_after (insn.Jump x) s h e = tt
second_after (insn.JumpLong x) s h e = tt
second_after (insn.Branch c w d src x) s h e = tt
second_after (insn.Call helper) s h e = tt
second_after (insn.CallLocal x) s h e = tt
second_after insn.Exit s h e = tt
second_after (insn.Load z signed d src x) s h e = tt
second_after (insn.Store z d x src) s h e = tt
second_after (insn.Atomic op w d src x) s h e = tt

pub read_spelled : (f : Fields) (g : Option Fields) (i : Insn) (first : List ℕ) (second : Option (List ℕ)) → FitsSlot f → HalfFits g → first ≡ slot_of f → IsHalfOf g second → ReadAs f g i → Spelled first second i
read_spelled f g i first second fits fg e h r =
    let k = found f g i fits fg r in
    record { is_insn = k.is_insn; first_slot = e ∙ ap slot_of (sym k.first); second_slot = after_second (second_of i) g second k.second h }

same_kind : (o : Option Kind) (k l : Kind) → o ≡ Some k → o ≡ Some l → k ≡ l
same_kind o k l p q = cc

-- one reading gives one instruction
one_reading : (f : Fields) (g : Option Fields) (i j : Insn) → ReadAs f g i → ReadAs f g j → j ≡ i
one_reading f g i j p q = q.is ∙ ap (λ k. insn_at k f (half_imm g)) (same_kind (kind_at f.opcode) q.kind p.kind q.known p.known) ∙ sym p.is

answer_is : (r : Result Insn FieldFault) (f : Fields) (g : Option Fields) (i : Insn) → IfOk r (ReadAs f g) → IfErr r (IsLeast (ReadsFault f g)) → ReadAs f g i → r ≡ Ok i
answer_is (Ok j) f g i ok err p = ap (λ (x : Insn). Ok x) (one_reading f g i j p ok)
answer_is (Err e) f g i ok err p = absurd (fine_faultless p.kind f g p.known p.fine p.half e err.is_fault)

pub spelled_read : (r : Result Insn FieldFault) (f : Fields) (g : Option Fields) (i : Insn) (first : List ℕ) (second : Option (List ℕ)) → FitsSlot f → first ≡ slot_of f → g ≡ half_at second
    → IfOk r (ReadAs f g) → IfErr r (IsLeast (ReadsFault f g)) → Spelled first second i → r ≡ Ok i
spelled_read r f g i first second fits e h ok err s =
    let after : IsAfter (second_of i) g = subst (IsAfter (second_of i)) (sym h) (second_after i second s.is_insn s.second_slot) in
    let a = again i g s.is_insn after in
    let same : fields_of i ≡ f = fields_same (fields_of i) f a.fits fits (sym s.first_slot ∙ e) in
    answer_is r f g i ok err (subst (λ x. ReadAs x g i) same a.read)

pub ok_of : (r : Result Insn FieldFault) (i : Insn) (P : Insn → Type 0) → r ≡ Ok i → IfOk r P → P i
ok_of r i P e h = subst (λ (x : Result Insn FieldFault). IfOk x P) e h

pub faultless_read : (r : Result Insn FieldFault) (f f' : Fields) (g g' : Option Fields) → f ≡ f' → g ≡ g' → IfOk r (ReadAs f g) → IfOk r (λ _. (e : FieldFault) → ReadsFault f' g' e → ⊥)
faultless_read (Ok i) f f' g g' p q ok =
    let clean : (e : FieldFault) → ReadsFault f g e → ⊥ = fine_faultless ok.kind f g ok.known ok.fine ok.half in
    subst (λ y. (e : FieldFault) → ReadsFault f' y e → ⊥) q (subst (λ x. (e : FieldFault) → ReadsFault x g e → ⊥) p clean)
faultless_read (Err e) f f' g g' p q ok = tt

-- an instruction's slots spell it
pub spelled_again : (i : Insn) → IsInsn i → Spelled (slot_of (fields_of i)) (second_slot_of (second_of i)) i
spelled_again i h = record { is_insn = h; first_slot = refl; second_slot = second_again (second_of i) }
  where
    second_again : (o : Option Fields) → IsSecond o (second_slot_of o)
    second_again None = tt
    second_again (Some f) = refl

read_again : (i : Insn) (first : List ℕ) (second : Option (List ℕ)) → Spelled first second i → Again i (half_at second)
read_again i first second s = again i (half_at second) s.is_insn (second_after i second s.is_insn s.second_slot)

-- slots spell one instruction
pub one_spelled : (first : List ℕ) (second : Option (List ℕ)) (i j : Insn) → Spelled first second i → Spelled first second j → i ≡ j
one_spelled first second i j s t =
    let a = read_again i first second s in
    let b = read_again j first second t in
    let same : fields_of i ≡ fields_of j = fields_same (fields_of i) (fields_of j) a.fits b.fits (sym s.first_slot ∙ t.first_slot) in
    one_reading (fields_of j) (half_at second) j i b.read (subst (λ f. ReadAs f (half_at second) i) same a.read)
