-- Fields spell the instruction that they are read as.
use Rattle.std.proofs.Common.{ℕ, ◌≡◌, ◌+◌, ◌*◌, ◌/◌, ◌%◌, ◌^◌, ◌<◌, ◌≤◌, ⊎_elim, true, false, Bool, cond, Some, None, Option, refl, sym, ap, subst, ◌∙◌, arith}
use Rattle.std.specs.Prelude.{ℤ, pos, ◌≤ℤ◌, unsigned_abs, FitsSigned}
use Rattle.std.specs.Int.{w16, w32, cast_signed, cast_unsigned}
use Rattle.std.proofs.lemmas.Int.{ints, to_z-of_z}
use Rattle.bpf_insn.specs.declared.fields.Fields.{Fields}
use Rattle.bpf_insn.specs.declared.insn.AluOp.{AluOp}
use Rattle.bpf_insn.specs.declared.insn.AluOp.TheVariants as alu
use Rattle.bpf_insn.specs.declared.insn.Size.{Size}
use Rattle.bpf_insn.specs.declared.insn.Size.TheVariants as size
use Rattle.bpf_insn.specs.declared.insn.Insn.{Insn}
use Rattle.bpf_insn.specs.declared.kind.Kind.{Kind}
use Rattle.bpf_insn.specs.declared.kind.Use.TheVariants.{Width, Update}
use Rattle.bpf_insn.specs.declared.kind.Kind.TheVariants as kind
use Rattle.bpf_insn.specs.Slot.{FitsSlot}
use Rattle.bpf_insn.specs.Widths.{order_bits}
use Rattle.bpf_insn.specs.Opcodes.{alu_code, alu_class, opcode_of}
use Rattle.bpf_insn.specs.Uses.{Meets, uses_of, sign_use, register_use}
use Rattle.bpf_insn.specs.Faults.{IsHalf}
use Rattle.bpf_insn.specs.Reading.{Fine, IsFineHalf, signed_op, order_width_at, register_alu, update_at, insn_at, half_imm, ReadAs}
use Rattle.bpf_insn.specs.Spelled.{alu_sign, atomic_code, fields_of, second_of, IsInsn, IsSigned}
use Rattle.std.specs.Prelude.{nat_eq}
use Rattle.bpf_insn.proofs.Again.{IsAfter}
use Rattle.bpf_insn.proofs.Codes.{is_plain, is_kind, known_kind}
use Rattle.bpf_insn.proofs.Slots.{made, unsigned_four}

pub record Found (i : Insn) (f : Fields) (g : Option Fields) : Type 0 where
  pub is_insn : IsInsn i
  pub first : fields_of i ≡ f
  pub second : IsAfter (second_of i) g

big_small : (n : ℕ) → pos n ≤ℤ pos 10 → n ≤ 10
big_small n h = omega (arith, ints)

pos_is : (n m : ℕ) → pos n ≡ pos m → n ≡ m
pos_is n m h = omega (arith, ints)

cond_code_Div : (t : Bool) → alu_code (cond t alu.Sdiv alu.Div) ≡ alu_code alu.Div
cond_code_Div true = refl
cond_code_Div false = refl

cond_code_Mod : (t : Bool) → alu_code (cond t alu.Smod alu.Mod) ≡ alu_code alu.Mod
cond_code_Mod true = refl
cond_code_Mod false = refl

signed_code : (op : AluOp) (n : ℕ) → alu_code (signed_op op n) ≡ alu_code op
signed_code alu.Add n = refl
signed_code alu.Sub n = refl
signed_code alu.Mul n = refl
signed_code alu.Div n = cond_code_Div (nat_eq n 1)
signed_code alu.Or n = refl
signed_code alu.And n = refl
signed_code alu.Lsh n = refl
signed_code alu.Rsh n = refl
signed_code alu.Mod n = cond_code_Mod (nat_eq n 1)
signed_code alu.Xor n = refl
signed_code alu.Mov n = refl
signed_code alu.Arsh n = refl
signed_code alu.Sdiv n = refl
signed_code alu.Smod n = refl

sign_back : (op : AluOp) (x : ℤ) → is_plain op ≡ true → Meets (sign_use op) x → alu_sign (signed_op op (unsigned_abs x)) ≡ x
sign_back alu.Add x p h = sym h
sign_back alu.Sub x p h = sym h
sign_back alu.Mul x p h = sym h
sign_back alu.Div x p h = ⊎_elim (λ e. subst (λ z. alu_sign (signed_op alu.Div (unsigned_abs z)) ≡ z) (sym e) refl) (λ e. subst (λ z. alu_sign (signed_op alu.Div (unsigned_abs z)) ≡ z) (sym e) refl) h
sign_back alu.Or x p h = sym h
sign_back alu.And x p h = sym h
sign_back alu.Lsh x p h = sym h
sign_back alu.Rsh x p h = sym h
sign_back alu.Mod x p h = ⊎_elim (λ e. subst (λ z. alu_sign (signed_op alu.Mod (unsigned_abs z)) ≡ z) (sym e) refl) (λ e. subst (λ z. alu_sign (signed_op alu.Mod (unsigned_abs z)) ≡ z) (sym e) refl) h
sign_back alu.Xor x p h = sym h
sign_back alu.Mov x p h = sym h
sign_back alu.Arsh x p h = sym h
sign_back alu.Sdiv x p h = absurd cc
sign_back alu.Smod x p h = absurd cc

-- arithmetic on two registers, by the operation
abbrev Registers : AluOp → Bool → ℕ → ℕ → ℤ → Type 0
Registers op w d s x =
    IsInsn (register_alu op w (made (16 * alu_code op + 8 + alu_class w) d s x (pos 0)))
    × (fields_of (register_alu op w (made (16 * alu_code op + 8 + alu_class w) d s x (pos 0))) ≡ made (16 * alu_code op + 8 + alu_class w) d s x (pos 0))
    × (second_of (register_alu op w (made (16 * alu_code op + 8 + alu_class w) d s x (pos 0))) ≡ None)

registers : (op : AluOp) (w : Bool) (d s : ℕ) (x : ℤ) → is_plain op ≡ true → d ≤ 10 → s ≤ 10 → Meets (register_use op w) x → Registers op w d s x
registers alu.Add w d s x p a b h = ((a, b), ap (λ z. made (16 * alu_code alu.Add + 8 + alu_class w) d s z (pos 0)) (sym h), refl)
registers alu.Sub w d s x p a b h = ((a, b), ap (λ z. made (16 * alu_code alu.Sub + 8 + alu_class w) d s z (pos 0)) (sym h), refl)
registers alu.Mul w d s x p a b h = ((a, b), ap (λ z. made (16 * alu_code alu.Mul + 8 + alu_class w) d s z (pos 0)) (sym h), refl)
registers alu.Div w d s x p a b h = ⊎_elim (λ e. subst (Registers alu.Div w d s) (sym e) ((a, b), refl, refl)) (λ e. subst (Registers alu.Div w d s) (sym e) ((a, b), refl, refl)) h
registers alu.Or w d s x p a b h = ((a, b), ap (λ z. made (16 * alu_code alu.Or + 8 + alu_class w) d s z (pos 0)) (sym h), refl)
registers alu.And w d s x p a b h = ((a, b), ap (λ z. made (16 * alu_code alu.And + 8 + alu_class w) d s z (pos 0)) (sym h), refl)
registers alu.Lsh w d s x p a b h = ((a, b), ap (λ z. made (16 * alu_code alu.Lsh + 8 + alu_class w) d s z (pos 0)) (sym h), refl)
registers alu.Rsh w d s x p a b h = ((a, b), ap (λ z. made (16 * alu_code alu.Rsh + 8 + alu_class w) d s z (pos 0)) (sym h), refl)
registers alu.Mod w d s x p a b h = ⊎_elim (λ e. subst (Registers alu.Mod w d s) (sym e) ((a, b), refl, refl)) (λ e. subst (Registers alu.Mod w d s) (sym e) ((a, b), refl, refl)) h
registers alu.Xor w d s x p a b h = ((a, b), ap (λ z. made (16 * alu_code alu.Xor + 8 + alu_class w) d s z (pos 0)) (sym h), refl)
registers alu.Mov true d s x p a b h = ⊎_elim (λ e. let r : Registers alu.Mov true d s (pos 0) = ((a, b), refl, refl) in subst (Registers alu.Mov true d s) (sym e) r) (⊎_elim (λ e. let r : Registers alu.Mov true d s (pos 8) = ((tt, a, b), refl, refl) in subst (Registers alu.Mov true d s) (sym e) r) (⊎_elim (λ e. let r : Registers alu.Mov true d s (pos 16) = ((tt, a, b), refl, refl) in subst (Registers alu.Mov true d s) (sym e) r) (λ e. let r : Registers alu.Mov true d s (pos 32) = ((tt, a, b), refl, refl) in subst (Registers alu.Mov true d s) (sym e) r))) h
registers alu.Mov false d s x p a b h = ⊎_elim (λ e. let r : Registers alu.Mov false d s (pos 0) = ((a, b), refl, refl) in subst (Registers alu.Mov false d s) (sym e) r) (⊎_elim (λ e. let r : Registers alu.Mov false d s (pos 8) = (((λ e. absurd cc), a, b), refl, refl) in subst (Registers alu.Mov false d s) (sym e) r) (λ e. let r : Registers alu.Mov false d s (pos 16) = (((λ e. absurd cc), a, b), refl, refl) in subst (Registers alu.Mov false d s) (sym e) r)) h
registers alu.Arsh w d s x p a b h = ((a, b), ap (λ z. made (16 * alu_code alu.Arsh + 8 + alu_class w) d s z (pos 0)) (sym h), refl)
registers alu.Sdiv w d s x p a b h = absurd cc
registers alu.Smod w d s x p a b h = absurd cc

update_back : (v : ℤ) → Meets Update v → atomic_code (update_at (unsigned_abs v)) ≡ v
update_back v h = ⊎_elim (λ e. subst (λ z. atomic_code (update_at (unsigned_abs z)) ≡ z) (sym e) refl) (⊎_elim (λ e. subst (λ z. atomic_code (update_at (unsigned_abs z)) ≡ z) (sym e) refl) (⊎_elim (λ e. subst (λ z. atomic_code (update_at (unsigned_abs z)) ≡ z) (sym e) refl) (⊎_elim (λ e. subst (λ z. atomic_code (update_at (unsigned_abs z)) ≡ z) (sym e) refl) (⊎_elim (λ e. subst (λ z. atomic_code (update_at (unsigned_abs z)) ≡ z) (sym e) refl) (⊎_elim (λ e. subst (λ z. atomic_code (update_at (unsigned_abs z)) ≡ z) (sym e) refl) (⊎_elim (λ e. subst (λ z. atomic_code (update_at (unsigned_abs z)) ≡ z) (sym e) refl) (⊎_elim (λ e. subst (λ z. atomic_code (update_at (unsigned_abs z)) ≡ z) (sym e) refl) (⊎_elim (λ e. subst (λ z. atomic_code (update_at (unsigned_abs z)) ≡ z) (sym e) refl) (λ e. subst (λ z. atomic_code (update_at (unsigned_abs z)) ≡ z) (sym e) refl))))))))) h

width_back : (x : ℤ) → Meets Width x → pos (order_bits (order_width_at (unsigned_abs x))) ≡ x
width_back x h = ⊎_elim (λ e. subst (λ z. pos (order_bits (order_width_at (unsigned_abs z))) ≡ z) (sym e) refl) (⊎_elim (λ e. subst (λ z. pos (order_bits (order_width_at (unsigned_abs z))) ≡ z) (sym e) refl) (λ e. subst (λ z. pos (order_bits (order_width_at (unsigned_abs z))) ≡ z) (sym e) refl)) h

short_signed : (s : Bool) (z : Size) → is_kind (kind.Load z s) ≡ true → IsSigned s z
short_signed false z h = tt
short_signed true size.Double h = absurd cc
short_signed true size.Byte h = λ e. absurd cc
short_signed true size.Half h = λ e. absurd cc
short_signed true size.Word h = λ e. absurd cc

made_same : (o o' d d' s s' : ℕ) (x x' y y' : ℤ) → o ≡ o' → d ≡ d' → s ≡ s' → x ≡ x' → y ≡ y' → made o d s x y ≡ made o' d' s' x' y'
made_same o o' d d' s s' x x' y y' a b c e f = cc

zero_is : (n : ℕ) → pos n ≡ pos 0 → 0 ≡ n
zero_is n h = omega (arith, ints)

none_after : (o g : Option Fields) → o ≡ None → IsAfter o g
none_after None g h = tt
none_after (Some f) g h = absurd cc

half_is : (h : Fields) (z : ℤ) → IsHalf h → z ≡ h.imm → Some h ≡ Some (made 0 0 0 (pos 0) z)
half_is h z half e = ap Some (made_same h.opcode 0 h.dst 0 h.src 0 h.offset (pos 0) h.imm z half.opcode half.dst half.src half.offset (sym e))

low_part : (a b : ℕ) → a < 2 ^ 32 → (a + 2 ^ 32 * b) % 2 ^ 32 ≡ a
low_part a b h = omega arith

high_part : (a b : ℕ) → a < 2 ^ 32 → (a + 2 ^ 32 * b) / 2 ^ 32 ≡ b
high_part a b h = omega arith

abbrev WideFound : ℕ → ℤ → Fields → ℕ → Type 0
WideFound d y h s = Found (insn_at kind.LoadWide (made 0x18 d s (pos 0) y) h.imm) (made 0x18 d s (pos 0) y) (Some h)

wide_number : (d : ℕ) (y : ℤ) (h : Fields) → d ≤ 10 → FitsSigned w32 y → FitsSigned w32 h.imm → IsHalf h → WideFound d y h 0
wide_number d y h small fy fh half =
    let a = unsigned_four y fy in
    let b = unsigned_four h.imm fh in
    record {
      is_insn = (small, omega arith);
      first = made_same _ _ d d 0 0 (pos 0) (pos 0) _ y refl refl refl refl (ap (cast_signed w32) (low_part (cast_unsigned w32 y) (cast_unsigned w32 h.imm) a) ∙ to_z-of_z w32 y fy);
      second = half_is h _ half (ap (cast_signed w32) (high_part (cast_unsigned w32 y) (cast_unsigned w32 h.imm) a) ∙ to_z-of_z w32 h.imm fh);
    }

wide_map : (d : ℕ) (y : ℤ) (h : Fields) → d ≤ 10 → FitsSigned w32 y → h.imm ≡ pos 0 → IsHalf h → WideFound d y h 5
wide_map d y h small fy none half =
    record {
      is_insn = (small, unsigned_four y fy);
      first = made_same _ _ d d 5 5 (pos 0) (pos 0) _ y refl refl refl refl (to_z-of_z w32 y fy);
      second = half_is h _ half (sym none);
    }

wide_value : (d : ℕ) (y : ℤ) (h : Fields) → d ≤ 10 → FitsSigned w32 y → FitsSigned w32 h.imm → IsHalf h → WideFound d y h 6
wide_value d y h small fy fh half =
    record {
      is_insn = (small, (unsigned_four y fy, unsigned_four h.imm fh));
      first = made_same _ _ d d 6 6 (pos 0) (pos 0) _ y refl refl refl refl (to_z-of_z w32 y fy);
      second = half_is h _ half (to_z-of_z w32 h.imm fh);
    }

abbrev pub HalfFits : Option Fields → Type 0
HalfFits None = Unit {0}
HalfFits (Some h) = FitsSlot h

wide_found : (d s : ℕ) (x y : ℤ) (g : Option Fields) → FitsSigned w32 y → HalfFits g → Fine (uses_of kind.LoadWide) (made 0x18 d s x y) → IsFineHalf kind.LoadWide (made 0x18 d s x y) g
    → Found (insn_at kind.LoadWide (made 0x18 d s x y) (half_imm g)) (made 0x18 d s x y) g
wide_found d s x y None fy fg fine half = absurd half
wide_found d s x y (Some h) fy fg fine half =
    let small = big_small d fine.dst in
    let whole : WideFound d y h s = ⊎_elim
    (λ e. subst (WideFound d y h) (zero_is s e) (wide_number d y h small fy fg.imm half.0))
    (⊎_elim (λ e. let five : s ≡ 5 = pos_is s 5 e in subst (WideFound d y h) (sym five) (wide_map d y h small fy (half.1 five) half.0))
    (λ e. let six : s ≡ 6 = pos_is s 6 e in subst (WideFound d y h) (sym six) (wide_value d y h small fy fg.imm half.0))) fine.src in
    subst (λ z. Found (insn_at kind.LoadWide (made 0x18 d s z y) h.imm) (made 0x18 d s z y) (Some h)) (sym fine.offset) whole

abbrev CallFound : ℕ → ℤ → Option Fields → ℕ → Type 0
CallFound d y g s = Found (insn_at kind.Call (made 0x85 0 s (pos 0) y) (half_imm g)) (made 0x85 0 s (pos 0) y) g

abbrev PartsFound : Kind → ℕ → ℕ → ℤ → ℤ → Option Fields → Type 0
PartsFound k d s x y g = Found (insn_at k (made (opcode_of k) d s x y) (half_imm g)) (made (opcode_of k) d s x y) g

parts_found : (k : Kind) (d s : ℕ) (x y : ℤ) (g : Option Fields) → FitsSigned w16 x → FitsSigned w32 y → HalfFits g → is_kind k ≡ true
    → Fine (uses_of k) (made (opcode_of k) d s x y) → IsFineHalf k (made (opcode_of k) d s x y) g → PartsFound k d s x y g
parts_found (kind.Alu op w false) d s x y g fx fy fg p fine half =
    record {
      is_insn = (big_small d fine.dst, fy);
      second = tt;
      first = made_same _ _ d d 0 s _ x y y (ap (λ n. 16 * n + alu_class w) (signed_code op (unsigned_abs x))) refl (zero_is s fine.src) (sign_back op x p fine.offset) refl;
    }
parts_found (kind.Alu op w true) d s x y g fx fy fg p fine half =
    let r = registers op w d s x p (big_small d fine.dst) (big_small s fine.src) fine.offset in
    let whole : PartsFound (kind.Alu op w true) d s x (pos 0) g = record { is_insn = r.0; first = r.1; second = none_after _ g r.2 } in
    subst (λ z. PartsFound (kind.Alu op w true) d s x z g) (sym fine.imm) whole
parts_found (kind.Neg w) d s x y g fx fy fg p fine half =
    record { is_insn = big_small d fine.dst; second = tt; first = made_same _ _ d d 0 s (pos 0) x (pos 0) y refl refl (zero_is s fine.src) (sym fine.offset) (sym fine.imm) }
parts_found (kind.End o) d s x y g fx fy fg p fine half =
    record { is_insn = big_small d fine.dst; second = tt; first = made_same _ _ d d 0 s (pos 0) x _ y refl refl (zero_is s fine.src) (sym fine.offset) (width_back y fine.imm) }
parts_found (kind.Branch c w false) d s x y g fx fy fg p fine half =
    record { is_insn = (big_small d fine.dst, fy, fx); second = tt; first = made_same _ _ d d 0 s x x y y refl refl (zero_is s fine.src) refl refl }
parts_found (kind.Branch c w true) d s x y g fx fy fg p fine half =
    record { is_insn = (big_small d fine.dst, big_small s fine.src, fx); second = tt; first = made_same _ _ d d s s x x (pos 0) y refl refl refl refl (sym fine.imm) }
parts_found kind.Jump d s x y g fx fy fg p fine half =
    record { is_insn = fx; second = tt; first = made_same _ _ 0 d 0 s x x (pos 0) y refl (zero_is d fine.dst) (zero_is s fine.src) refl (sym fine.imm) }
parts_found kind.JumpLong d s x y g fx fy fg p fine half =
    record { is_insn = fy; second = tt; first = made_same _ _ 0 d 0 s (pos 0) x y y refl (zero_is d fine.dst) (zero_is s fine.src) (sym fine.offset) refl }
parts_found kind.Call d s x y g fx fy fg p fine half =
    let none : CallFound d y g 0 = record { is_insn = fy; second = tt; first = refl } in
    let one : CallFound d y g 1 = record { is_insn = fy; second = tt; first = refl } in
    let whole : CallFound d y g s = ⊎_elim (λ e. subst (CallFound d y g) (zero_is s e) none) (λ e. let o : 1 ≡ s = sym (pos_is s 1 e) in subst (CallFound d y g) o one) fine.src in
    let second : PartsFound kind.Call 0 s x y g = subst (λ z. PartsFound kind.Call 0 s z y g) (sym fine.offset) whole in
    subst (λ n. PartsFound kind.Call n s x y g) (zero_is d fine.dst) second
parts_found kind.Exit d s x y g fx fy fg p fine half =
    record { is_insn = tt; second = tt; first = made_same _ _ 0 d 0 s (pos 0) x (pos 0) y refl (zero_is d fine.dst) (zero_is s fine.src) (sym fine.offset) (sym fine.imm) }
parts_found (kind.Load z sign) d s x y g fx fy fg p fine half =
    record { is_insn = (short_signed sign z p, big_small d fine.dst, big_small s fine.src, fx); second = tt; first = made_same _ _ d d s s x x (pos 0) y refl refl refl refl (sym fine.imm) }
parts_found (kind.Store z false) d s x y g fx fy fg p fine half =
    record { is_insn = (big_small d fine.dst, fy, fx); second = tt; first = made_same _ _ d d 0 s x x y y refl refl (zero_is s fine.src) refl refl }
parts_found (kind.Store z true) d s x y g fx fy fg p fine half =
    record { is_insn = (big_small d fine.dst, big_small s fine.src, fx); second = tt; first = made_same _ _ d d s s x x (pos 0) y refl refl refl refl (sym fine.imm) }
parts_found (kind.Atomic w) d s x y g fx fy fg p fine half =
    record { is_insn = (big_small d fine.dst, big_small s fine.src, fx); second = tt; first = made_same _ _ d d s s x x _ y refl refl refl refl (update_back y fine.imm) }
parts_found kind.LoadWide d s x y g fx fy fg p fine half = wide_found d s x y g fy fg fine half

pub found : (f : Fields) (g : Option Fields) (i : Insn) → FitsSlot f → HalfFits g → ReadAs f g i → Found i f g
found f g i fits fg r =
    let k = r.kind in
    let known = known_kind f.opcode k fits.opcode r.known in
    let e : made (opcode_of k) f.dst f.src f.offset f.imm ≡ f = made_same _ _ f.dst f.dst f.src f.src f.offset f.offset f.imm f.imm known.opcode refl refl refl refl in
    let fine : Fine (uses_of k) (made (opcode_of k) f.dst f.src f.offset f.imm) = subst (Fine (uses_of k)) (sym e) r.fine in
    let half : IsFineHalf k (made (opcode_of k) f.dst f.src f.offset f.imm) g = subst (λ h. IsFineHalf k h g) (sym e) r.half in
    let whole : PartsFound k f.dst f.src f.offset f.imm g = parts_found k f.dst f.src f.offset f.imm g fits.offset fits.imm fg known.kind fine half in
    let moved : Found (insn_at k f (half_imm g)) f g = subst (λ h. Found (insn_at k h (half_imm g)) h g) e whole in
    subst (λ j. Found j f g) (sym r.is) moved
