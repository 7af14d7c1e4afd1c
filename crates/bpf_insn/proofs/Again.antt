-- An instruction's fields are read as the instruction.
use Rattle.std.proofs.Common.{ℕ, ◌≡◌, ◌+◌, ◌*◌, ◌/◌, ◌%◌, ◌^◌, ◌<◌, ◌≤◌, inl, inr, true, false, Bool, Some, None, Option, refl, sym, ap, subst, arith}
use Rattle.std.specs.Prelude.{ℤ, pos, ◌≤ℤ◌, unsigned_abs, FitsSigned}
use Rattle.std.specs.Int.{w16, w32, cast_signed}
use Rattle.std.proofs.lemmas.Int.{ints, of_z-to_z}
use Rattle.std.proofs.Math.Facts.{sfits_to_z}
use Rattle.bpf_insn.specs.declared.fields.Fields.{Fields}
use Rattle.bpf_insn.specs.declared.insn.AluOp.{AluOp}
use Rattle.bpf_insn.specs.declared.insn.AluOp.TheVariants as alu
use Rattle.bpf_insn.specs.declared.insn.Compare.{Compare}
use Rattle.bpf_insn.specs.declared.insn.Compare.TheVariants as compare
use Rattle.bpf_insn.specs.declared.insn.AtomicOp.{AtomicOp}
use Rattle.bpf_insn.specs.declared.insn.AtomicOp.TheVariants as atomic
use Rattle.bpf_insn.specs.declared.insn.Size.{Size}
use Rattle.bpf_insn.specs.declared.insn.Size.TheVariants as size
use Rattle.bpf_insn.specs.declared.insn.ByteOrder.{ByteOrder}
use Rattle.bpf_insn.specs.declared.insn.ByteOrder.TheVariants as order
use Rattle.bpf_insn.specs.declared.insn.Extension.{Extension}
use Rattle.bpf_insn.specs.declared.insn.Extension.TheVariants as extension
use Rattle.bpf_insn.specs.declared.insn.OrderWidth.{OrderWidth}
use Rattle.bpf_insn.specs.declared.insn.OrderWidth.TheVariants as width
use Rattle.bpf_insn.specs.declared.insn.Source.TheVariants as source
use Rattle.bpf_insn.specs.declared.insn.Wide.{Wide}
use Rattle.bpf_insn.specs.declared.insn.Wide.TheVariants as wide
use Rattle.bpf_insn.specs.declared.insn.Insn.{Insn}
use Rattle.bpf_insn.specs.declared.insn.Insn.TheVariants as insn
use Rattle.bpf_insn.specs.declared.kind.Use.{Use}
use Rattle.bpf_insn.specs.declared.kind.Use.TheVariants.{Free, Unused, Register, Width, Callee, Loaded, Update}
use Rattle.bpf_insn.specs.declared.kind.Kind.TheVariants as kind
use Rattle.bpf_insn.specs.Slot.{FitsSlot}
use Rattle.bpf_insn.specs.Widths.{extension_bits, order_bits}
use Rattle.bpf_insn.specs.Opcodes.{alu_code, alu_class, compare_code, jump_class, size_code, atomic_opcode, end_code, load_code}
use Rattle.bpf_insn.specs.Uses.{Meets, sign_use, register_use}
use Rattle.bpf_insn.specs.Reading.{Fine, IsFineHalf, signed_op, order_width_at, register_alu, update_at, wide_at, insn_at, half_imm, ReadAs}
use Rattle.bpf_insn.proofs.Codes.{basic, alu_imm_known, alu_reg_known, branch_imm_known, branch_reg_known, move_known, neg_known, end_known, atomic_known, store_imm_known, store_reg_known, load_known}
use Rattle.bpf_insn.specs.Spelled.{alu_sign, atomic_code, wide_kind, wide_low, wide_high, fields, fields_of, second_of, IsInsn, IsWide, IsExtension}

sign_again : (op : AluOp) → op ≡ signed_op (basic op) (unsigned_abs (alu_sign op))
sign_again alu.Add = refl
sign_again alu.Sub = refl
sign_again alu.Mul = refl
sign_again alu.Div = refl
sign_again alu.Or = refl
sign_again alu.And = refl
sign_again alu.Lsh = refl
sign_again alu.Rsh = refl
sign_again alu.Mod = refl
sign_again alu.Xor = refl
sign_again alu.Mov = refl
sign_again alu.Arsh = refl
sign_again alu.Sdiv = refl
sign_again alu.Smod = refl

update_again : (op : AtomicOp) → op ≡ update_at (unsigned_abs (atomic_code op))
update_again atomic.Add = refl
update_again atomic.Or = refl
update_again atomic.And = refl
update_again atomic.Xor = refl
update_again atomic.FetchAdd = refl
update_again atomic.FetchOr = refl
update_again atomic.FetchAnd = refl
update_again atomic.FetchXor = refl
update_again atomic.Xchg = refl
update_again atomic.Cmpxchg = refl

sign_meets : (op : AluOp) → Meets (sign_use (basic op)) (alu_sign op)
sign_meets alu.Add = refl
sign_meets alu.Sub = refl
sign_meets alu.Mul = refl
sign_meets alu.Div = inl refl
sign_meets alu.Or = refl
sign_meets alu.And = refl
sign_meets alu.Lsh = refl
sign_meets alu.Rsh = refl
sign_meets alu.Mod = inl refl
sign_meets alu.Xor = refl
sign_meets alu.Mov = refl
sign_meets alu.Arsh = refl
sign_meets alu.Sdiv = inr refl
sign_meets alu.Smod = inr refl

register_meets : (op : AluOp) (w : Bool) → Meets (register_use (basic op) w) (alu_sign op)
register_meets alu.Add w = refl
register_meets alu.Sub w = refl
register_meets alu.Mul w = refl
register_meets alu.Div w = inl refl
register_meets alu.Or w = refl
register_meets alu.And w = refl
register_meets alu.Lsh w = refl
register_meets alu.Rsh w = refl
register_meets alu.Mod w = inl refl
register_meets alu.Xor w = refl
register_meets alu.Mov true = inl refl
register_meets alu.Mov false = inl refl
register_meets alu.Arsh w = refl
register_meets alu.Sdiv w = inr refl
register_meets alu.Smod w = inr refl

register_again : (op : AluOp) (w : Bool) (d r : ℕ) → insn.Alu op w d (source.Reg r) ≡ register_alu (basic op) w (fields (16 * alu_code op + 8 + alu_class w) d r (alu_sign op) (pos 0))
register_again alu.Add w d r = refl
register_again alu.Sub w d r = refl
register_again alu.Mul w d r = refl
register_again alu.Div w d r = refl
register_again alu.Or w d r = refl
register_again alu.And w d r = refl
register_again alu.Lsh w d r = refl
register_again alu.Rsh w d r = refl
register_again alu.Mod w d r = refl
register_again alu.Xor w d r = refl
register_again alu.Mov w d r = refl
register_again alu.Arsh w d r = refl
register_again alu.Sdiv w d r = refl
register_again alu.Smod w d r = refl

update_meets : (op : AtomicOp) → Meets Update (atomic_code op)
update_meets atomic.Add = inl refl
update_meets atomic.Or = inr (inl refl)
update_meets atomic.And = inr (inr (inl refl))
update_meets atomic.Xor = inr (inr (inr (inl refl)))
update_meets atomic.FetchAdd = inr (inr (inr (inr (inl refl))))
update_meets atomic.FetchOr = inr (inr (inr (inr (inr (inl refl)))))
update_meets atomic.FetchAnd = inr (inr (inr (inr (inr (inr (inl refl))))))
update_meets atomic.FetchXor = inr (inr (inr (inr (inr (inr (inr (inl refl)))))))
update_meets atomic.Xchg = inr (inr (inr (inr (inr (inr (inr (inr (inl refl))))))))
update_meets atomic.Cmpxchg = inr (inr (inr (inr (inr (inr (inr (inr (inr (refl)))))))))

small : (n : ℕ) → n ≤ 10 → pos n ≤ℤ pos 10
small n h = omega (arith, ints)

alu_code_small : (op : AluOp) → alu_code op ≤ 12
alu_code_small alu.Add = omega arith
alu_code_small alu.Sub = omega arith
alu_code_small alu.Mul = omega arith
alu_code_small alu.Div = omega arith
alu_code_small alu.Or = omega arith
alu_code_small alu.And = omega arith
alu_code_small alu.Lsh = omega arith
alu_code_small alu.Rsh = omega arith
alu_code_small alu.Mod = omega arith
alu_code_small alu.Xor = omega arith
alu_code_small alu.Mov = omega arith
alu_code_small alu.Arsh = omega arith
alu_code_small alu.Sdiv = omega arith
alu_code_small alu.Smod = omega arith

compare_code_small : (op : Compare) → compare_code op ≤ 13
compare_code_small compare.Eq = omega arith
compare_code_small compare.Gt = omega arith
compare_code_small compare.Ge = omega arith
compare_code_small compare.Set = omega arith
compare_code_small compare.Ne = omega arith
compare_code_small compare.Sgt = omega arith
compare_code_small compare.Sge = omega arith
compare_code_small compare.Lt = omega arith
compare_code_small compare.Le = omega arith
compare_code_small compare.Slt = omega arith
compare_code_small compare.Sle = omega arith

size_code_small : (z : Size) → size_code z ≤ 3
size_code_small size.Byte = omega arith
size_code_small size.Half = omega arith
size_code_small size.Word = omega arith
size_code_small size.Double = omega arith

alu_class_small : (w : Bool) → alu_class w ≤ 7
alu_class_small true = omega arith
alu_class_small false = omega arith

jump_class_small : (w : Bool) → jump_class w ≤ 6
jump_class_small true = omega arith
jump_class_small false = omega arith

load_code_small : (w : Bool) → load_code w ≤ 129
load_code_small true = omega arith
load_code_small false = omega arith

atomic_opcode_small : (w : Bool) → atomic_opcode w ≤ 219
atomic_opcode_small true = omega arith
atomic_opcode_small false = omega arith

end_code_small : (o : ByteOrder) → end_code o ≤ 0xdc
end_code_small order.Little = omega arith
end_code_small order.Big = omega arith
end_code_small order.Swap = omega arith

pub zero16 : FitsSigned w16 (pos 0)
zero16 = record { sfits = omega arith }

pub zero32 : FitsSigned w32 (pos 0)
zero32 = record { sfits = omega arith }

byte16 : (n : ℕ) → n < 256 → FitsSigned w16 (pos n)
byte16 n h = record { sfits = omega arith }

byte32 : (n : ℕ) → n < 256 → FitsSigned w32 (pos n)
byte32 n h = record { sfits = omega arith }

-- the second slot's fields, if the instruction has a second half
abbrev pub IsAfter : Option Fields → Option Fields → Type 0
IsAfter None g = Unit {0}
IsAfter (Some f) g = g ≡ Some f

pub record Again (i : Insn) (g : Option Fields) : Type 0 where
  pub read : ReadAs (fields_of i) g i
  pub fits : FitsSlot (fields_of i)

abbrev slot_fits : ℕ → ℕ → ℕ → ℤ → ℤ → Type 0
slot_fits o d s x y = (o < 256) → d ≤ 10 → s ≤ 10 → FitsSigned w16 x → FitsSigned w32 y → FitsSlot (fields o d s x y)

fits_by : (o d s : ℕ) (x y : ℤ) → slot_fits o d s x y
fits_by o d s x y a b c e f = record { opcode = a; dst = omega arith; src = omega arith; offset = e; imm = f }

fine_by : (u1 u2 u3 u4 : Use) (o d s : ℕ) (x y : ℤ) → Meets u1 (pos d) → Meets u2 (pos s) → Meets u3 x → Meets u4 y
    → Fine (record { dst = u1; src = u2; offset = u3; imm = u4 }) (fields o d s x y)
fine_by u1 u2 u3 u4 o d s x y a b c e = record { dst = a; src = b; offset = c; imm = e }

alu_sign_fits : (op : AluOp) → FitsSigned w16 (alu_sign op)
alu_sign_fits alu.Add = zero16
alu_sign_fits alu.Sub = zero16
alu_sign_fits alu.Mul = zero16
alu_sign_fits alu.Div = zero16
alu_sign_fits alu.Or = zero16
alu_sign_fits alu.And = zero16
alu_sign_fits alu.Lsh = zero16
alu_sign_fits alu.Rsh = zero16
alu_sign_fits alu.Mod = zero16
alu_sign_fits alu.Xor = zero16
alu_sign_fits alu.Mov = zero16
alu_sign_fits alu.Arsh = zero16
alu_sign_fits alu.Sdiv = byte16 1 (omega arith)
alu_sign_fits alu.Smod = byte16 1 (omega arith)

atomic_code_fits : (op : AtomicOp) → FitsSigned w32 (atomic_code op)
atomic_code_fits atomic.Add = record { sfits = omega arith }
atomic_code_fits atomic.Or = record { sfits = omega arith }
atomic_code_fits atomic.And = record { sfits = omega arith }
atomic_code_fits atomic.Xor = record { sfits = omega arith }
atomic_code_fits atomic.FetchAdd = record { sfits = omega arith }
atomic_code_fits atomic.FetchOr = record { sfits = omega arith }
atomic_code_fits atomic.FetchAnd = record { sfits = omega arith }
atomic_code_fits atomic.FetchXor = record { sfits = omega arith }
atomic_code_fits atomic.Xchg = record { sfits = omega arith }
atomic_code_fits atomic.Cmpxchg = record { sfits = omega arith }

extension_meets : (w : Bool) (from : Extension) → IsExtension w from → Meets (register_use alu.Mov w) (pos (extension_bits from))
extension_meets true extension.Byte h = inr (inl refl)
extension_meets true extension.Half h = inr (inr (inl refl))
extension_meets true extension.Word h = inr (inr (inr refl))
extension_meets false extension.Byte h = inr (inl refl)
extension_meets false extension.Half h = inr (inr refl)
extension_meets false extension.Word h = absurd (h refl)

extension_small : (from : Extension) → extension_bits from < 256
extension_small extension.Byte = omega arith
extension_small extension.Half = omega arith
extension_small extension.Word = omega arith

extension_again : (from : Extension) (w : Bool) (d s : ℕ) → insn.MovSx from w d s ≡ register_alu alu.Mov w (fields (0xb8 + alu_class w) d s (pos (extension_bits from)) (pos 0))
extension_again extension.Byte w d s = refl
extension_again extension.Half w d s = refl
extension_again extension.Word w d s = refl

width_meets : (x : OrderWidth) → Meets Width (pos (order_bits x))
width_meets width.Half = inl refl
width_meets width.Word = inr (inl refl)
width_meets width.Double = inr (inr refl)

width_small : (x : OrderWidth) → order_bits x < 256
width_small width.Half = omega arith
width_small width.Word = omega arith
width_small width.Double = omega arith

width_again : (o : ByteOrder) (x : OrderWidth) (d : ℕ) → insn.End o x d ≡ insn.End o (order_width_at (order_bits x)) d
width_again o width.Half d = refl
width_again o width.Word d = refl
width_again o width.Double d = refl

wide_kind_small : (v : Wide) → wide_kind v ≤ 10
wide_kind_small (wide.Number n) = omega arith
wide_kind_small (wide.Map m) = omega arith
wide_kind_small (wide.MapValue m o) = omega arith

wide_kind_meets : (v : Wide) → Meets Loaded (pos (wide_kind v))
wide_kind_meets (wide.Number n) = inl refl
wide_kind_meets (wide.Map m) = inr (inl refl)
wide_kind_meets (wide.MapValue m o) = inr (inr refl)

pub signed_fits : (n : ℕ) → n < 2 ^ 32 → FitsSigned w32 (cast_signed w32 n)
signed_fits n h = sfits_to_z {w = w32} {n = n} (record { fits = h })

wide_low_fits : (v : Wide) → IsWide v → FitsSigned w32 (wide_low v)
wide_low_fits (wide.Number n) h = signed_fits (n % 2 ^ 32) (omega arith)
wide_low_fits (wide.Map m) h = signed_fits m h
wide_low_fits (wide.MapValue m o) h = signed_fits m h.0

wide_high_zero : (v : Wide) → wide_kind v ≡ 5 → wide_high v ≡ pos 0
wide_high_zero (wide.Number n) h = absurd (omega arith)
wide_high_zero (wide.Map m) h = refl
wide_high_zero (wide.MapValue m o) h = absurd (omega arith)

number_again : (n a b : ℕ) → a ≡ n % 2 ^ 32 → b ≡ n / 2 ^ 32 → n ≡ a + 2 ^ 32 * b
number_again n a b p q = omega arith

wide_again : (d : ℕ) (v : Wide) → IsWide v → v ≡ wide_at (fields 0x18 d (wide_kind v) (pos 0) (wide_low v)) (wide_high v)
wide_again d (wide.Number n) h = ap wide.Number (number_again n _ _ (of_z-to_z w32 (n % 2 ^ 32) (omega arith)) (of_z-to_z w32 (n / 2 ^ 32) (omega arith)))
wide_again d (wide.Map m) h = ap wide.Map (sym (of_z-to_z w32 m h))
wide_again d (wide.MapValue m o) h = two m o (sym (of_z-to_z w32 m h.0)) (sym (of_z-to_z w32 o h.1))
  where
    two : (a b : ℕ) {c e : ℕ} → a ≡ c → b ≡ e → wide.MapValue a b ≡ wide.MapValue c e
    two a b p q = cc

pub again : (i : Insn) (g : Option Fields) → IsInsn i → IsAfter (second_of i) g → Again i g
again (insn.Alu op w d (source.Imm n)) g h after =
    record {
      read = record {
        kind = kind.Alu (basic op) w false;
        known = alu_imm_known op w;
        half = tt;
        is = ap (λ o. insn.Alu o w d (source.Imm n)) (sign_again op);
        fine = fine_by Register Unused (sign_use (basic op)) Free _ d 0 (alu_sign op) n (small d h.0) refl (sign_meets op) tt;
      };
      fits = fits_by _ d 0 (alu_sign op) n (omega (arith, alu_code_small op, alu_class_small w)) h.0 (omega arith) (alu_sign_fits op) h.1;
    }
again (insn.Alu op w d (source.Reg r)) g h after =
    record {
      read = record {
        kind = kind.Alu (basic op) w true;
        known = alu_reg_known op w;
        half = tt;
        is = register_again op w d r;
        fine = fine_by Register Register (register_use (basic op) w) Unused _ d r (alu_sign op) (pos 0) (small d h.0) (small r h.1) (register_meets op w) refl;
      };
      fits = fits_by _ d r (alu_sign op) (pos 0) (omega (arith, alu_code_small op, alu_class_small w)) h.0 h.1 (alu_sign_fits op) zero32;
    }
again (insn.MovSx from w d s) g h after =
    record {
      read = record {
        kind = kind.Alu alu.Mov w true;
        known = move_known w;
        half = tt;
        is = extension_again from w d s;
        fine = fine_by Register Register (register_use alu.Mov w) Unused _ d s (pos (extension_bits from)) (pos 0) (small d h.1) (small s h.2) (extension_meets w from h.0) refl;
      };
      fits = fits_by _ d s (pos (extension_bits from)) (pos 0) (omega (arith, alu_class_small w)) h.1 h.2 (byte16 (extension_bits from) (extension_small from)) zero32;
    }
again (insn.Neg w d) g h after =
    record {
      read = record {
        kind = kind.Neg w;
        known = neg_known w;
        half = tt;
        is = refl;
        fine = fine_by Register Unused Unused Unused _ d 0 (pos 0) (pos 0) (small d h) refl refl refl;
      };
      fits = fits_by _ d 0 (pos 0) (pos 0) (omega (arith, alu_class_small w)) h (omega arith) zero16 zero32;
    }
again (insn.End order x d) g h after =
    record {
      read = record {
        kind = kind.End order;
        known = end_known order;
        half = tt;
        is = width_again order x d;
        fine = fine_by Register Unused Unused Width _ d 0 (pos 0) (pos (order_bits x)) (small d h) refl refl (width_meets x);
      };
      fits = fits_by _ d 0 (pos 0) (pos (order_bits x)) (omega (arith, end_code_small order)) h (omega arith) zero16 (byte32 (order_bits x) (width_small x));
    }
again (insn.Jump x) g h after =
    record {
      read = record { kind = kind.Jump; known = refl; half = tt; is = refl; fine = fine_by Unused Unused Free Unused _ 0 0 x (pos 0) refl refl tt refl };
      fits = fits_by _ 0 0 x (pos 0) (omega arith) (omega arith) (omega arith) h zero32;
    }
again (insn.JumpLong x) g h after =
    record {
      read = record { kind = kind.JumpLong; known = refl; half = tt; is = refl; fine = fine_by Unused Unused Unused Free _ 0 0 (pos 0) x refl refl refl tt };
      fits = fits_by _ 0 0 (pos 0) x (omega arith) (omega arith) (omega arith) zero16 h;
    }
again (insn.Branch c w d (source.Imm n) x) g h after =
    record {
      read = record {
        kind = kind.Branch c w false;
        known = branch_imm_known c w;
        half = tt;
        is = refl;
        fine = fine_by Register Unused Free Free _ d 0 x n (small d h.0) refl tt tt;
      };
      fits = fits_by _ d 0 x n (omega (arith, compare_code_small c, jump_class_small w)) h.0 (omega arith) h.2 h.1;
    }
again (insn.Branch c w d (source.Reg r) x) g h after =
    record {
      read = record {
        kind = kind.Branch c w true;
        known = branch_reg_known c w;
        half = tt;
        is = refl;
        fine = fine_by Register Register Free Unused _ d r x (pos 0) (small d h.0) (small r h.1) tt refl;
      };
      fits = fits_by _ d r x (pos 0) (omega (arith, compare_code_small c, jump_class_small w)) h.0 h.1 h.2 zero32;
    }
again (insn.Call helper) g h after =
    record {
      read = record { kind = kind.Call; known = refl; half = tt; is = refl; fine = fine_by Unused Callee Unused Free _ 0 0 (pos 0) helper refl (inl refl) refl tt };
      fits = fits_by _ 0 0 (pos 0) helper (omega arith) (omega arith) (omega arith) zero16 h;
    }
again (insn.CallLocal x) g h after =
    record {
      read = record { kind = kind.Call; known = refl; half = tt; is = refl; fine = fine_by Unused Callee Unused Free _ 0 1 (pos 0) x refl (inr refl) refl tt };
      fits = fits_by _ 0 1 (pos 0) x (omega arith) (omega arith) (omega arith) zero16 h;
    }
again insn.Exit g h after =
    record {
      read = record { kind = kind.Exit; known = refl; half = tt; is = refl; fine = fine_by Unused Unused Unused Unused _ 0 0 (pos 0) (pos 0) refl refl refl refl };
      fits = fits_by _ 0 0 (pos 0) (pos 0) (omega arith) (omega arith) (omega arith) zero16 zero32;
    }
again (insn.Load z signed d s x) g h after =
    record {
      read = record {
        kind = kind.Load z signed;
        known = load_known signed z h.0;
        half = tt;
        is = refl;
        fine = fine_by Register Register Free Unused _ d s x (pos 0) (small d h.1) (small s h.2) tt refl;
      };
      fits = fits_by _ d s x (pos 0) (omega (arith, size_code_small z, load_code_small signed)) h.1 h.2 h.3 zero32;
    }
again (insn.Store z d x (source.Imm n)) g h after =
    record {
      read = record {
        kind = kind.Store z false;
        known = store_imm_known z;
        half = tt;
        is = refl;
        fine = fine_by Register Unused Free Free _ d 0 x n (small d h.0) refl tt tt;
      };
      fits = fits_by _ d 0 x n (omega (arith, size_code_small z)) h.0 (omega arith) h.2 h.1;
    }
again (insn.Store z d x (source.Reg r)) g h after =
    record {
      read = record {
        kind = kind.Store z true;
        known = store_reg_known z;
        half = tt;
        is = refl;
        fine = fine_by Register Register Free Unused _ d r x (pos 0) (small d h.0) (small r h.1) tt refl;
      };
      fits = fits_by _ d r x (pos 0) (omega (arith, size_code_small z)) h.0 h.1 h.2 zero32;
    }
again (insn.Atomic op w d s x) g h after =
    record {
      read = record {
        kind = kind.Atomic w;
        known = atomic_known w;
        half = tt;
        is = ap (λ o. insn.Atomic o w d s x) (update_again op);
        fine = fine_by Register Register Free Update _ d s x (atomic_code op) (small d h.0) (small s h.1) tt (update_meets op);
      };
      fits = fits_by _ d s x (atomic_code op) (omega (arith, atomic_opcode_small w)) h.0 h.1 h.2 (atomic_code_fits op);
    }
again (insn.LoadWide d v) g h after =
    let half : IsFineHalf kind.LoadWide (fields_of (insn.LoadWide d v)) (Some (fields 0 0 0 (pos 0) (wide_high v))) =
    (record { opcode = refl; dst = refl; src = refl; offset = refl }, wide_high_zero v) in
    let is : insn.LoadWide d v ≡ insn_at kind.LoadWide (fields_of (insn.LoadWide d v)) (wide_high v) = ap (insn.LoadWide d) (wide_again d v h.1) in
    record {
      read = record {
        kind = kind.LoadWide;
        known = refl;
        half = subst (IsFineHalf kind.LoadWide (fields_of (insn.LoadWide d v))) (sym after) half;
        is = subst (λ g. insn.LoadWide d v ≡ insn_at kind.LoadWide (fields_of (insn.LoadWide d v)) (half_imm g)) (sym after) is;
        fine = fine_by Register Loaded Unused Free _ d (wide_kind v) (pos 0) (wide_low v) (small d h.0) (wide_kind_meets v) refl tt;
      };
      fits = fits_by _ d (wide_kind v) (pos 0) (wide_low v) (omega arith) h.0 (wide_kind_small v) zero16 (wide_low_fits v h.1);
    }
