-- The instruction that fields spell, and when fields are valid.
use Rattle.std.specs.Prelude.{◌≡◌, ℕ, ◌+◌, ◌*◌, ◌^◌, ◌⊎◌, ℤ, pos, unsigned_abs, Bool, true, false, nat_eq, nat_le, if◌then◌else◌, List, Option, Some, None}
use Rattle.std.specs.Int.{w32, cast_unsigned}
use Rattle.bpf_insn.specs.declared.fields.Fields.{Fields}
use Rattle.bpf_insn.specs.declared.fault.FieldFault.{FieldFault}
use Rattle.bpf_insn.specs.declared.insn.AluOp.{AluOp}
use Rattle.bpf_insn.specs.declared.insn.AluOp.TheVariants as alu
use Rattle.bpf_insn.specs.declared.insn.Compare.{Compare}
use Rattle.bpf_insn.specs.declared.insn.Size.{Size}
use Rattle.bpf_insn.specs.declared.insn.AtomicOp.{AtomicOp}
use Rattle.bpf_insn.specs.declared.insn.AtomicOp.TheVariants as atomic
use Rattle.bpf_insn.specs.declared.insn.Extension.{Extension}
use Rattle.bpf_insn.specs.declared.insn.Extension.TheVariants as extension
use Rattle.bpf_insn.specs.declared.insn.OrderWidth.{OrderWidth}
use Rattle.bpf_insn.specs.declared.insn.OrderWidth.TheVariants as width
use Rattle.bpf_insn.specs.declared.insn.Source.TheVariants as source
use Rattle.bpf_insn.specs.declared.insn.Wide.{Wide}
use Rattle.bpf_insn.specs.declared.insn.Wide.TheVariants as wide
use Rattle.bpf_insn.specs.declared.insn.Insn.{Insn}
use Rattle.bpf_insn.specs.declared.insn.Insn.TheVariants as insn
use Rattle.bpf_insn.specs.declared.kind.Kind.{Kind}
use Rattle.bpf_insn.specs.declared.kind.Kind.TheVariants as kind
use Rattle.bpf_insn.specs.declared.kind.Uses.{Uses}
use Rattle.bpf_insn.specs.Slot.{slot_of}
use Rattle.bpf_insn.specs.Kinds.{kind_at}
use Rattle.bpf_insn.specs.Uses.{Meets, uses_of}
use Rattle.bpf_insn.specs.declared.fault.FieldFault.TheVariants.{UnknownOpcode}
use Rattle.bpf_insn.specs.Faults.{IsHalf, InFields, InSecond, number_of}

-- each field has a value that its use allows
pub record Fine (u : Uses) (f : Fields) : Type 0 where
  pub dst : Meets u.dst (pos f.dst)
  pub src : Meets u.src (pos f.src)
  pub offset : Meets u.offset f.offset
  pub imm : Meets u.imm f.imm

-- the second half of a wide load is valid
abbrev pub HalfFine : ℕ → Option Fields → Type 0
HalfFine s None = ⊥
HalfFine s (Some g) = IsHalf g × (s ≡ 5 → g.imm ≡ pos 0)

-- a wide load has a valid second half; no other kind needs one
abbrev pub IsFineHalf : Kind → Fields → Option Fields → Type 0
IsFineHalf kind.LoadWide f g = HalfFine f.src g
IsFineHalf _ f g = Unit {0}

-- the faults of fields, by the kind read from their opcode
abbrev pub InKind : Option Kind → Fields → Option Fields → FieldFault → Type 0
InKind None f second e = e ≡ UnknownOpcode
InKind (Some k) f second e = InFields (uses_of k) f e ⊎ InSecond k f second e

-- the faults of fields
abbrev pub ReadsFault : Fields → Option Fields → FieldFault → Type 0
ReadsFault f second e = InKind (kind_at f.opcode) f second e

-- the fault with the lower number
abbrev pub least_of : Option FieldFault → Option FieldFault → Option FieldFault
least_of None b = b
least_of (Some a) None = Some a
least_of (Some a) (Some b) = (if nat_le (number_of a) (number_of b) then Some a else Some b)

-- the slot of these fields, if any
abbrev pub IsHalfOf : Option Fields → Option (List ℕ) → Type 0
IsHalfOf None s = s ≡ None
IsHalfOf (Some f) s = s ≡ Some (slot_of f)

-- the immediate in the second half; 0 if there is none
abbrev pub half_imm : Option Fields → ℤ
half_imm None = pos 0
half_imm (Some g) = g.imm

-- a division with offset 1 is signed (RFC 9669 section 4.1)
abbrev pub signed_op : AluOp → ℕ → AluOp
signed_op alu.Div n = (if nat_eq n 1 then alu.Sdiv else alu.Div)
signed_op alu.Mod n = (if nat_eq n 1 then alu.Smod else alu.Mod)
signed_op op n = op

-- how many bits MOVSX reads, by its offset: 8, 16 or 32 (RFC 9669 section 4.1)
abbrev pub extension_at : ℕ → Extension
extension_at n =
    (if nat_eq n 8 then extension.Byte
    else (if nat_eq n 16 then extension.Half else extension.Word))

-- how many bits END converts, by its immediate: 16, 32 or 64 (RFC 9669 section 4.2)
abbrev pub order_width_at : ℕ → OrderWidth
order_width_at n =
    (if nat_eq n 16 then width.Half else (if nat_eq n 32 then width.Word else width.Double))

-- MOV of a register; MOVSX if the offset isn't 0 (RFC 9669 section 4.1)
abbrev pub move_at : Bool → Fields → Insn
move_at w f =
    (if nat_eq (unsigned_abs f.offset) 0 then insn.Alu alu.Mov w f.dst (source.Reg f.src)
    else insn.MovSx (extension_at (unsigned_abs f.offset)) w f.dst f.src)

-- arithmetic on two registers
abbrev pub register_alu : AluOp → Bool → Fields → Insn
register_alu alu.Mov w f = move_at w f
register_alu op w f = insn.Alu (signed_op op (unsigned_abs f.offset)) w f.dst (source.Reg f.src)

-- the atomic operation of a number (RFC 9669 section 5.3)
abbrev pub update_at : ℕ → AtomicOp
update_at n =
    (if nat_eq n 0x40 then atomic.Or
    else (if nat_eq n 0x50 then atomic.And
    else (if nat_eq n 0xa0 then atomic.Xor
    else (if nat_eq n 0x01 then atomic.FetchAdd
    else (if nat_eq n 0x41 then atomic.FetchOr
    else (if nat_eq n 0x51 then atomic.FetchAnd
    else (if nat_eq n 0xa1 then atomic.FetchXor
    else (if nat_eq n 0xe1 then atomic.Xchg
    else (if nat_eq n 0xf1 then atomic.Cmpxchg
    else atomic.Add)))))))))

-- what a wide load loads, by its source register: a number, a map, or a map's value (RFC 9669 section 5.4)
abbrev pub wide_at : Fields → ℤ → Wide
wide_at f high =
    (if nat_eq f.src 0
    then wide.Number (cast_unsigned w32 f.imm + 2 ^ 32 * cast_unsigned w32 high) else
    (if nat_eq f.src 5 then wide.Map (cast_unsigned w32 f.imm)
    else wide.MapValue (cast_unsigned w32 f.imm) (cast_unsigned w32 high)))

-- arithmetic whose source is an immediate or a register
abbrev pub read_alu : AluOp → Bool → Bool → Fields → Insn
read_alu op w false f = insn.Alu (signed_op op (unsigned_abs f.offset)) w f.dst (source.Imm f.imm)
read_alu op w true f = register_alu op w f

-- a conditional jump that compares with an immediate or a register
abbrev pub read_branch : Compare → Bool → Bool → Fields → Insn
read_branch c w false f = insn.Branch c w f.dst (source.Imm f.imm) f.offset
read_branch c w true f = insn.Branch c w f.dst (source.Reg f.src) f.offset

-- a store of an immediate or a register
abbrev pub read_store : Size → Bool → Fields → Insn
read_store z false f = insn.Store z f.dst f.offset (source.Imm f.imm)
read_store z true f = insn.Store z f.dst f.offset (source.Reg f.src)

-- the instruction of a kind with these fields; the last argument is the second half's immediate
abbrev pub insn_at : Kind → Fields → ℤ → Insn
insn_at (kind.Alu op w r) f high = read_alu op w r f
insn_at (kind.Neg w) f high = insn.Neg w f.dst
insn_at (kind.End o) f high = insn.End o (order_width_at (unsigned_abs f.imm)) f.dst
insn_at (kind.Branch c w r) f high = read_branch c w r f
insn_at kind.Jump f high = insn.Jump f.offset
insn_at kind.JumpLong f high = insn.JumpLong f.imm
insn_at kind.Call f high = (if nat_eq f.src 0 then insn.Call f.imm else insn.CallLocal f.imm)
insn_at kind.Exit f high = insn.Exit
insn_at (kind.Load z s) f high = insn.Load z s f.dst f.src f.offset
insn_at (kind.Store z r) f high = read_store z r f
insn_at (kind.Atomic w) f high = insn.Atomic (update_at (unsigned_abs f.imm)) w f.dst f.src f.offset
insn_at kind.LoadWide f high = insn.LoadWide f.dst (wide_at f high)

-- the fields f, with those of the next slot g, are read as the instruction i
pub record ReadAs (f : Fields) (g : Option Fields) (i : Insn) : Type 0 where
  pub kind : Kind
  pub known : kind_at f.opcode ≡ Some kind
  pub fine : Fine (uses_of kind) f
  pub half : IsFineHalf kind f g
  pub is : i ≡ insn_at kind f (half_imm g)
