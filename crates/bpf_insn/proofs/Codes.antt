-- An opcode is read as the kind that has it.
use Rattle.std.proofs.Common.{ℕ, zero, suc, ◌≡◌, ◌+◌, ◌*◌, ◌<◌, ⊎_elim, inl, inr, true, false, Bool, Some, None, Option, refl, sym, ap, subst, ◌∙◌, arith}
use Rattle.bpf_insn.specs.declared.fields.Fields.{Fields}
use Rattle.bpf_insn.specs.declared.insn.AluOp.{AluOp}
use Rattle.bpf_insn.specs.declared.insn.AluOp.TheVariants as alu
use Rattle.bpf_insn.specs.declared.insn.Compare.{Compare}
use Rattle.bpf_insn.specs.declared.insn.Compare.TheVariants as compare
use Rattle.bpf_insn.specs.declared.insn.Size.{Size}
use Rattle.bpf_insn.specs.declared.insn.Size.TheVariants as size
use Rattle.bpf_insn.specs.declared.insn.ByteOrder.{ByteOrder}
use Rattle.bpf_insn.specs.declared.insn.ByteOrder.TheVariants as order
use Rattle.bpf_insn.specs.declared.insn.Insn.{Insn}
use Rattle.bpf_insn.specs.declared.kind.Kind.{Kind}
use Rattle.bpf_insn.specs.declared.kind.Kind.TheVariants as kind
use Rattle.bpf_insn.specs.Opcodes.{alu_code, alu_class, compare_code, jump_class, size_code, atomic_opcode, end_code, load_code, opcode_of, IsKind}
use Rattle.bpf_insn.specs.Kinds.{kind_at}
use Rattle.std.specs.Prelude.{◌&&◌, nat_eq, ◌↔◌, IfOk, IfErr, Result, Ok, Err}
use Rattle.std.proofs.lemmas.Bool.{and_parts, cases_lt, eqb-true}
use Rattle.bpf_insn.specs.declared.fault.FieldFault.{FieldFault}
use Rattle.bpf_insn.specs.declared.fault.FieldFault.TheVariants.{UnknownOpcode}
use Rattle.bpf_insn.specs.Faults.{HasFault, NoKind, WrongField, WrongSecond, IsLeast}
use Rattle.bpf_insn.specs.Reading.{InKind, ReadsFault}
use Rattle.bpf_insn.specs.Spelled.{IsSigned}

abbrev pub basic : AluOp → AluOp
basic alu.Add = alu.Add
basic alu.Sub = alu.Sub
basic alu.Mul = alu.Mul
basic alu.Div = alu.Div
basic alu.Or = alu.Or
basic alu.And = alu.And
basic alu.Lsh = alu.Lsh
basic alu.Rsh = alu.Rsh
basic alu.Mod = alu.Mod
basic alu.Xor = alu.Xor
basic alu.Mov = alu.Mov
basic alu.Arsh = alu.Arsh
basic alu.Sdiv = alu.Div
basic alu.Smod = alu.Mod

pub alu_imm_known : (op : AluOp) (w : Bool) → kind_at (16 * alu_code op + alu_class w) ≡ Some (kind.Alu (basic op) w false)
alu_imm_known alu.Add true = refl
alu_imm_known alu.Add false = refl
alu_imm_known alu.Sub true = refl
alu_imm_known alu.Sub false = refl
alu_imm_known alu.Mul true = refl
alu_imm_known alu.Mul false = refl
alu_imm_known alu.Div true = refl
alu_imm_known alu.Div false = refl
alu_imm_known alu.Or true = refl
alu_imm_known alu.Or false = refl
alu_imm_known alu.And true = refl
alu_imm_known alu.And false = refl
alu_imm_known alu.Lsh true = refl
alu_imm_known alu.Lsh false = refl
alu_imm_known alu.Rsh true = refl
alu_imm_known alu.Rsh false = refl
alu_imm_known alu.Mod true = refl
alu_imm_known alu.Mod false = refl
alu_imm_known alu.Xor true = refl
alu_imm_known alu.Xor false = refl
alu_imm_known alu.Mov true = refl
alu_imm_known alu.Mov false = refl
alu_imm_known alu.Arsh true = refl
alu_imm_known alu.Arsh false = refl
alu_imm_known alu.Sdiv true = refl
alu_imm_known alu.Sdiv false = refl
alu_imm_known alu.Smod true = refl
alu_imm_known alu.Smod false = refl

pub alu_reg_known : (op : AluOp) (w : Bool) → kind_at (16 * alu_code op + 8 + alu_class w) ≡ Some (kind.Alu (basic op) w true)
alu_reg_known alu.Add true = refl
alu_reg_known alu.Add false = refl
alu_reg_known alu.Sub true = refl
alu_reg_known alu.Sub false = refl
alu_reg_known alu.Mul true = refl
alu_reg_known alu.Mul false = refl
alu_reg_known alu.Div true = refl
alu_reg_known alu.Div false = refl
alu_reg_known alu.Or true = refl
alu_reg_known alu.Or false = refl
alu_reg_known alu.And true = refl
alu_reg_known alu.And false = refl
alu_reg_known alu.Lsh true = refl
alu_reg_known alu.Lsh false = refl
alu_reg_known alu.Rsh true = refl
alu_reg_known alu.Rsh false = refl
alu_reg_known alu.Mod true = refl
alu_reg_known alu.Mod false = refl
alu_reg_known alu.Xor true = refl
alu_reg_known alu.Xor false = refl
alu_reg_known alu.Mov true = refl
alu_reg_known alu.Mov false = refl
alu_reg_known alu.Arsh true = refl
alu_reg_known alu.Arsh false = refl
alu_reg_known alu.Sdiv true = refl
alu_reg_known alu.Sdiv false = refl
alu_reg_known alu.Smod true = refl
alu_reg_known alu.Smod false = refl

pub branch_imm_known : (c : Compare) (w : Bool) → kind_at (16 * compare_code c + jump_class w) ≡ Some (kind.Branch c w false)
branch_imm_known compare.Eq true = refl
branch_imm_known compare.Eq false = refl
branch_imm_known compare.Gt true = refl
branch_imm_known compare.Gt false = refl
branch_imm_known compare.Ge true = refl
branch_imm_known compare.Ge false = refl
branch_imm_known compare.Set true = refl
branch_imm_known compare.Set false = refl
branch_imm_known compare.Ne true = refl
branch_imm_known compare.Ne false = refl
branch_imm_known compare.Sgt true = refl
branch_imm_known compare.Sgt false = refl
branch_imm_known compare.Sge true = refl
branch_imm_known compare.Sge false = refl
branch_imm_known compare.Lt true = refl
branch_imm_known compare.Lt false = refl
branch_imm_known compare.Le true = refl
branch_imm_known compare.Le false = refl
branch_imm_known compare.Slt true = refl
branch_imm_known compare.Slt false = refl
branch_imm_known compare.Sle true = refl
branch_imm_known compare.Sle false = refl

pub branch_reg_known : (c : Compare) (w : Bool) → kind_at (16 * compare_code c + 8 + jump_class w) ≡ Some (kind.Branch c w true)
branch_reg_known compare.Eq true = refl
branch_reg_known compare.Eq false = refl
branch_reg_known compare.Gt true = refl
branch_reg_known compare.Gt false = refl
branch_reg_known compare.Ge true = refl
branch_reg_known compare.Ge false = refl
branch_reg_known compare.Set true = refl
branch_reg_known compare.Set false = refl
branch_reg_known compare.Ne true = refl
branch_reg_known compare.Ne false = refl
branch_reg_known compare.Sgt true = refl
branch_reg_known compare.Sgt false = refl
branch_reg_known compare.Sge true = refl
branch_reg_known compare.Sge false = refl
branch_reg_known compare.Lt true = refl
branch_reg_known compare.Lt false = refl
branch_reg_known compare.Le true = refl
branch_reg_known compare.Le false = refl
branch_reg_known compare.Slt true = refl
branch_reg_known compare.Slt false = refl
branch_reg_known compare.Sle true = refl
branch_reg_known compare.Sle false = refl

pub move_known : (w : Bool) → kind_at (0xb8 + alu_class w) ≡ Some (kind.Alu alu.Mov w true)
move_known true = refl
move_known false = refl

pub neg_known : (w : Bool) → kind_at (0x80 + alu_class w) ≡ Some (kind.Neg w)
neg_known true = refl
neg_known false = refl

pub end_known : (o : ByteOrder) → kind_at (end_code o) ≡ Some (kind.End o)
end_known order.Little = refl
end_known order.Big = refl
end_known order.Swap = refl

pub atomic_known : (w : Bool) → kind_at (atomic_opcode w) ≡ Some (kind.Atomic w)
atomic_known true = refl
atomic_known false = refl

pub store_imm_known : (z : Size) → kind_at (0x62 + 8 * size_code z) ≡ Some (kind.Store z false)
store_imm_known size.Byte = refl
store_imm_known size.Half = refl
store_imm_known size.Word = refl
store_imm_known size.Double = refl

pub store_reg_known : (z : Size) → kind_at (0x63 + 8 * size_code z) ≡ Some (kind.Store z true)
store_reg_known size.Byte = refl
store_reg_known size.Half = refl
store_reg_known size.Word = refl
store_reg_known size.Double = refl

pub load_known : (s : Bool) (z : Size) → IsSigned s z → kind_at (load_code s + 8 * size_code z) ≡ Some (kind.Load z s)
load_known false size.Byte h = refl
load_known false size.Half h = refl
load_known false size.Word h = refl
load_known false size.Double h = refl
load_known true size.Byte h = refl
load_known true size.Half h = refl
load_known true size.Word h = refl
load_known true size.Double h = absurd (h refl)

abbrev pub is_plain : AluOp → Bool
is_plain alu.Sdiv = false
is_plain alu.Smod = false
is_plain alu.Add = true
is_plain alu.Sub = true
is_plain alu.Mul = true
is_plain alu.Div = true
is_plain alu.Or = true
is_plain alu.And = true
is_plain alu.Lsh = true
is_plain alu.Rsh = true
is_plain alu.Mod = true
is_plain alu.Xor = true
is_plain alu.Mov = true
is_plain alu.Arsh = true

abbrev is_short : Size → Bool
is_short size.Double = false
is_short size.Byte = true
is_short size.Half = true
is_short size.Word = true

-- the kinds that exist
abbrev pub is_kind : Kind → Bool
is_kind (kind.Alu op w r) = is_plain op
is_kind (kind.Load z true) = is_short z
is_kind (kind.Load z false) = true
is_kind (kind.Neg w) = true
is_kind (kind.End o) = true
is_kind (kind.Branch c w r) = true
is_kind kind.Jump = true
is_kind kind.JumpLong = true
is_kind kind.Call = true
is_kind kind.Exit = true
is_kind (kind.Store z r) = true
is_kind (kind.Atomic w) = true
is_kind kind.LoadWide = true

abbrev fits_opcode : ℕ → Option Kind → Bool
fits_opcode n None = true
fits_opcode n (Some k) = is_kind k && nat_eq (opcode_of k) n

-- every opcode below n has its kind
abbrev all_fit : ℕ → Bool
all_fit zero = true
all_fit (suc n) = fits_opcode n (kind_at n) && all_fit n

at_table : (n m : ℕ) → m < n → all_fit n ≡ true → fits_opcode m (kind_at m) ≡ true
at_table zero m lt h = absurd (omega arith)
at_table (suc n) m lt h =
    elim (cases_lt m n) [
      | inl less ↦ at_table n m less (and_parts (fits_opcode n (kind_at n)) (all_fit n) h).1
      | inr more ↦ let e : n ≡ m = omega arith in subst (λ k. fits_opcode k (kind_at k) ≡ true) e (and_parts (fits_opcode n (kind_at n)) (all_fit n) h).0
    ]

whole_table : all_fit 256 ≡ true
whole_table = refl

pub record Reads (k : Kind) (n : ℕ) : Type 0 where
  pub kind : is_kind k ≡ true
  pub opcode : opcode_of k ≡ n

pub known_kind : (n : ℕ) (k : Kind) → n < 256 → kind_at n ≡ Some k → Reads k n
known_kind n k lt e =
    let h : (is_kind k && nat_eq (opcode_of k) n) ≡ true = subst (λ o. fits_opcode n o ≡ true) e (at_table 256 n lt whole_table) in
    let both = and_parts (is_kind k) (nat_eq (opcode_of k) n) h in
    record { kind = both.0; opcode = eqb-true _ _ both.1 }

-- the test means that the kind exists
kind_is : (k : Kind) → is_kind k ≡ true → IsKind k
kind_is (kind.Alu alu.Sdiv w r) h = absurd cc
kind_is (kind.Alu alu.Smod w r) h = absurd cc
kind_is (kind.Load size.Double true) h = absurd cc
kind_is _ h = tt

basic_is : (op : AluOp) (w r : Bool) → IsKind (kind.Alu op w r) → basic op ≡ op
basic_is alu.Sdiv w r h = absurd h
basic_is alu.Smod w r h = absurd h
basic_is alu.Add w r h = refl
basic_is alu.Sub w r h = refl
basic_is alu.Mul w r h = refl
basic_is alu.Div w r h = refl
basic_is alu.Or w r h = refl
basic_is alu.And w r h = refl
basic_is alu.Lsh w r h = refl
basic_is alu.Rsh w r h = refl
basic_is alu.Mod w r h = refl
basic_is alu.Xor w r h = refl
basic_is alu.Mov w r h = refl
basic_is alu.Arsh w r h = refl

signed_short : (z : Size) → IsKind (kind.Load z true) → IsSigned true z
signed_short size.Double h = absurd h
signed_short size.Byte h = λ e. absurd cc
signed_short size.Half h = λ e. absurd cc
signed_short size.Word h = λ e. absurd cc

-- a kind's opcode is read as that kind
pub kind_known : (k : Kind) → IsKind k → kind_at (opcode_of k) ≡ Some k
kind_known (kind.Alu op w false) h = alu_imm_known op w ∙ ap (λ o. Some (kind.Alu o w false)) (basic_is op w false h)
kind_known (kind.Alu op w true) h = alu_reg_known op w ∙ ap (λ o. Some (kind.Alu o w true)) (basic_is op w true h)
kind_known (kind.Neg w) h = neg_known w
kind_known (kind.End o) h = end_known o
kind_known (kind.Branch c w false) h = branch_imm_known c w
kind_known (kind.Branch c w true) h = branch_reg_known c w
kind_known kind.Jump h = refl
kind_known kind.JumpLong h = refl
kind_known kind.Call h = refl
kind_known kind.Exit h = refl
kind_known (kind.Load z true) h = load_known true z (signed_short z h)
kind_known (kind.Load z false) h = load_known false z tt
kind_known (kind.Store z false) h = store_imm_known z
kind_known (kind.Store z true) h = store_reg_known z
kind_known (kind.Atomic w) h = atomic_known w
kind_known kind.LoadWide h = refl

kind_there : (f : Fields) (k : Kind) → IsKind k → opcode_of k ≡ f.opcode → kind_at f.opcode ≡ Some k
kind_there f k is e = ap kind_at (sym e) ∙ kind_known k is

none_there : (f : Fields) (h : Option Fields) (e : FieldFault) (o : Option Kind) → f.opcode < 256 → kind_at f.opcode ≡ o → ((k : Kind) → IsKind k → opcode_of k ≡ f.opcode → ⊥) → e ≡ UnknownOpcode → InKind o f h e
none_there f h e None fits known none is = is
none_there f h e (Some k) fits known none is = let r = known_kind f.opcode k fits known in absurd (none k (kind_is k r.kind) r.opcode)

reads_out : (f : Fields) (h : Option Fields) (e : FieldFault) → f.opcode < 256 → HasFault f h e → ReadsFault f h e
reads_out f h e fits (NoKind none is) = none_there f h e (kind_at f.opcode) fits refl none is
reads_out f h e fits (WrongField k is code bad) = subst (λ o. InKind o f h e) (sym (kind_there f k is code)) (inl bad)
reads_out f h e fits (WrongSecond k is code bad) = subst (λ o. InKind o f h e) (sym (kind_there f k is code)) (inr bad)

reads_in : (f : Fields) (h : Option Fields) (e : FieldFault) (o : Option Kind) → f.opcode < 256 → kind_at f.opcode ≡ o → InKind o f h e → HasFault f h e
reads_in f h e None fits known bad = NoKind (λ k is code. absurd (let there = kind_there f k is code in cc)) bad
reads_in f h e (Some k) fits known bad =
    let r = known_kind f.opcode k fits known in
    ⊎_elim (λ b. WrongField k (kind_is k r.kind) r.opcode b) (λ b. WrongSecond k (kind_is k r.kind) r.opcode b) bad

-- the faults found by reading are the faults
pub same_faults : (f : Fields) (h : Option Fields) (e : FieldFault) → f.opcode < 256 → HasFault f h e ↔ ReadsFault f h e
same_faults f h e fits = (reads_out f h e fits, reads_in f h e (kind_at f.opcode) fits refl)

pub same_least : (P Q : FieldFault → Type 0) (e : FieldFault) → ((g : FieldFault) → P g ↔ Q g) → IsLeast Q e → IsLeast P e
same_least P Q e same l = record { is_fault = (same e).1 l.is_fault; least = λ g p. l.least g ((same g).0 p) }

pub least_fault : (r : Result Insn FieldFault) (f f' : Fields) (g g' : Option Fields) → f ≡ f' → g ≡ g' → f.opcode < 256 → IfErr r (IsLeast (ReadsFault f g)) → IfErr r (IsLeast (HasFault f' g'))
least_fault (Ok i) f f' g g' p q fits err = tt
least_fault (Err e) f f' g g' p q fits err =
    let here : IsLeast (HasFault f g) e = same_least (HasFault f g) (ReadsFault f g) e (λ x. same_faults f g x fits) err in
    subst (λ y. IsLeast (HasFault f' y) e) q (subst (λ x. IsLeast (HasFault x g) e) p here)

pub no_fault : (r : Result Insn FieldFault) (f f' : Fields) (g g' : Option Fields) → f ≡ f' → g ≡ g' → f.opcode < 256 → IfOk r (λ _. (e : FieldFault) → ReadsFault f g e → ⊥) → IfOk r (λ _. (e : FieldFault) → HasFault f' g' e → ⊥)
no_fault (Ok i) f f' g g' p q fits ok =
    let here : (e : FieldFault) → HasFault f g e → ⊥ = λ e h. ok e ((same_faults f g e fits).0 h) in
    subst (λ y. (e : FieldFault) → HasFault f' y e → ⊥) q (subst (λ x. (e : FieldFault) → HasFault x g e → ⊥) p here)
no_fault (Err e) f f' g g' p q fits ok = tt
