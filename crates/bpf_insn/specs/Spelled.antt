-- The slots that spell an instruction.
use Rattle.std.specs.Prelude.{◌≡◌, ℕ, ◌/◌, ◌%◌, ◌^◌, ◌<◌, ◌≤◌, ◌≢◌, List, ℤ, pos, Bool, true, false, Option, Some, None, FitsSigned}
use Rattle.std.specs.Int.{w16, w32, cast_signed}
use Rattle.bpf_insn.specs.declared.fields.Fields.{Fields}
use Rattle.bpf_insn.specs.declared.insn.AluOp.{AluOp}
use Rattle.bpf_insn.specs.declared.insn.AluOp.TheVariants as alu
use Rattle.bpf_insn.specs.declared.insn.AtomicOp.{AtomicOp}
use Rattle.bpf_insn.specs.declared.insn.AtomicOp.TheVariants as atomic
use Rattle.bpf_insn.specs.declared.insn.Size.{Size}
use Rattle.bpf_insn.specs.declared.insn.Size.TheVariants as size
use Rattle.bpf_insn.specs.declared.insn.Extension.{Extension}
use Rattle.bpf_insn.specs.declared.insn.Extension.TheVariants as extension
use Rattle.bpf_insn.specs.declared.insn.Source.{Source}
use Rattle.bpf_insn.specs.declared.insn.Source.TheVariants as source
use Rattle.bpf_insn.specs.declared.insn.Wide.{Wide}
use Rattle.bpf_insn.specs.declared.insn.Wide.TheVariants as wide
use Rattle.bpf_insn.specs.declared.insn.Insn.{Insn}
use Rattle.bpf_insn.specs.declared.insn.Insn.TheVariants as insn
use Rattle.bpf_insn.specs.Slot.{slot_of}
use Rattle.bpf_insn.specs.Opcodes.{alu_opcode, neg_opcode, end_code, branch_opcode, load_opcode, store_opcode, atomic_opcode}
use Rattle.bpf_insn.specs.Widths.{extension_bits, order_bits}

-- the offset that makes a division signed
abbrev pub alu_sign : AluOp → ℤ
alu_sign alu.Sdiv = pos 1
alu_sign alu.Smod = pos 1
alu_sign _ = pos 0

-- the immediate of an atomic operation; its bit 0 says that it fetches the old number (RFC 9669 section 5.3)
abbrev pub atomic_code : AtomicOp → ℤ
atomic_code atomic.Add = pos 0x00
atomic_code atomic.Or = pos 0x40
atomic_code atomic.And = pos 0x50
atomic_code atomic.Xor = pos 0xa0
atomic_code atomic.FetchAdd = pos 0x01
atomic_code atomic.FetchOr = pos 0x41
atomic_code atomic.FetchAnd = pos 0x51
atomic_code atomic.FetchXor = pos 0xa1
atomic_code atomic.Xchg = pos 0xe1
atomic_code atomic.Cmpxchg = pos 0xf1

-- the source field of a wide load, which tells what it loads; its immediate is the low half, the second slot's the high
-- half (RFC 9669 sections 3.2 and 5.4)
abbrev pub wide_kind : Wide → ℕ
wide_kind (wide.Number n) = 0
wide_kind (wide.Map m) = 5
wide_kind (wide.MapValue m o) = 6

-- the immediate in its first slot, signed 32-bit
abbrev pub wide_low : Wide → ℤ
wide_low (wide.Number n) = cast_signed w32 (n % 2 ^ 32)
wide_low (wide.Map m) = cast_signed w32 m
wide_low (wide.MapValue m o) = cast_signed w32 m

-- the immediate in its second slot, signed 32-bit
abbrev pub wide_high : Wide → ℤ
wide_high (wide.Number n) = cast_signed w32 (n / 2 ^ 32)
wide_high (wide.Map m) = pos 0
wide_high (wide.MapValue m o) = cast_signed w32 o

-- a slot's fields, in order
abbrev pub fields : ℕ → ℕ → ℕ → ℤ → ℤ → Fields
fields o d s x i = record { opcode = o; dst = d; src = s; offset = x; imm = i }

-- the fields of an instruction: opcode, dst, src, offset, imm
abbrev pub fields_of : Insn → Fields
fields_of (insn.Alu op w d (source.Imm n)) = fields (alu_opcode op w false) d 0 (alu_sign op) n
fields_of (insn.Alu op w d (source.Reg r)) = fields (alu_opcode op w true) d r (alu_sign op) (pos 0)
fields_of (insn.MovSx from w d s) =
    fields (alu_opcode alu.Mov w true) d s (pos (extension_bits from)) (pos 0)
fields_of (insn.Neg w d) = fields (neg_opcode w) d 0 (pos 0) (pos 0)
fields_of (insn.End order width d) = fields (end_code order) d 0 (pos 0) (pos (order_bits width))
fields_of (insn.Jump x) = fields 0x05 0 0 x (pos 0)
fields_of (insn.JumpLong x) = fields 0x06 0 0 (pos 0) x
fields_of (insn.Branch c w d (source.Imm n) x) = fields (branch_opcode c w false) d 0 x n
fields_of (insn.Branch c w d (source.Reg r) x) = fields (branch_opcode c w true) d r x (pos 0)
fields_of (insn.Call helper) = fields 0x85 0 0 (pos 0) helper
fields_of (insn.CallLocal x) = fields 0x85 0 1 (pos 0) x
fields_of insn.Exit = fields 0x95 0 0 (pos 0) (pos 0)
fields_of (insn.Load z signed d s x) = fields (load_opcode z signed) d s x (pos 0)
fields_of (insn.Store z d x (source.Imm n)) = fields (store_opcode z false) d 0 x n
fields_of (insn.Store z d x (source.Reg r)) = fields (store_opcode z true) d r x (pos 0)
fields_of (insn.Atomic op w d s x) = fields (atomic_opcode w) d s x (atomic_code op)
fields_of (insn.LoadWide d v) = fields 0x18 d (wide_kind v) (pos 0) (wide_low v)

-- the fields of an instruction's second half, if it has one
abbrev pub second_of : Insn → Option Fields
second_of (insn.LoadWide d v) = Some (fields 0 0 0 (pos 0) (wide_high v))
second_of _ = None

-- a signed 32-bit number, or one of the registers R0 to R10
abbrev pub IsSource : Source → Type 0
IsSource (source.Imm n) = FitsSigned w32 n
IsSource (source.Reg r) = r ≤ 10

-- a 64-bit number, or a map, or a map and an offset, of 32 bits each
abbrev pub IsWide : Wide → Type 0
IsWide (wide.Number n) = n < 2 ^ 64
IsWide (wide.Map m) = m < 2 ^ 32
IsWide (wide.MapValue m o) = (m < 2 ^ 32) × (o < 2 ^ 32)

-- a sign-extending load has fewer than eight bytes (RFC 9669 section 5.2)
abbrev pub IsSigned : Bool → Size → Type 0
IsSigned true z = z ≢ size.Double
IsSigned false z = Unit {0}

-- 32 bits are extended only to 64
abbrev pub IsExtension : Bool → Extension → Type 0
IsExtension true from = Unit {0}
IsExtension false from = from ≢ extension.Word

-- which values are instructions: the parts fit their types, and the operation has this width
abbrev pub IsInsn : Insn → Type 0
IsInsn (insn.Alu op w d s) = (d ≤ 10) × IsSource s
IsInsn (insn.MovSx from w d s) = IsExtension w from × (d ≤ 10) × (s ≤ 10)
IsInsn (insn.Neg w d) = d ≤ 10
IsInsn (insn.End order width d) = d ≤ 10
IsInsn (insn.Jump x) = FitsSigned w16 x
IsInsn (insn.JumpLong x) = FitsSigned w32 x
IsInsn (insn.Branch c w d s x) = (d ≤ 10) × IsSource s × FitsSigned w16 x
IsInsn (insn.Call helper) = FitsSigned w32 helper
IsInsn (insn.CallLocal x) = FitsSigned w32 x
IsInsn insn.Exit = Unit {0}
IsInsn (insn.Load z signed d s x) = IsSigned signed z × (d ≤ 10) × (s ≤ 10) × FitsSigned w16 x
IsInsn (insn.Store z d x s) = (d ≤ 10) × IsSource s × FitsSigned w16 x
IsInsn (insn.Atomic op w d s x) = (d ≤ 10) × (s ≤ 10) × FitsSigned w16 x
IsInsn (insn.LoadWide d v) = (d ≤ 10) × IsWide v

-- the second slot is the instruction's second half, if it has one
abbrev pub IsSecond : Option Fields → Option (List ℕ) → Type 0
IsSecond None slot = Unit {0}
IsSecond (Some f) slot = slot ≡ Some (slot_of f)

-- the first slot, with the second if the instruction has a second half, spells the instruction
pub record Spelled (first : List ℕ) (second : Option (List ℕ)) (i : Insn) : Type 0 where
  pub is_insn : IsInsn i
  pub first_slot : first ≡ slot_of (fields_of i)
  pub second_slot : IsSecond (second_of i) second

-- the second slot of these fields, if any
abbrev pub second_slot_of : Option Fields → Option (List ℕ)
second_slot_of None = None
second_slot_of (Some f) = Some (slot_of f)
