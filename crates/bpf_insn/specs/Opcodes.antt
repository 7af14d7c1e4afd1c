-- The opcodes (RFC 9669 sections 3.1, 4 and 5): the class in the low three bits, and above it a source bit and a code,
-- or a size and a mode. All numbers are from the tables there.
use Rattle.std.specs.Prelude.{ℕ, ◌+◌, ◌*◌, Bool, true, false}
use Rattle.bpf_insn.specs.declared.insn.AluOp.{AluOp}
use Rattle.bpf_insn.specs.declared.insn.AluOp.TheVariants as alu
use Rattle.bpf_insn.specs.declared.insn.Compare.{Compare}
use Rattle.bpf_insn.specs.declared.insn.Compare.TheVariants as compare
use Rattle.bpf_insn.specs.declared.insn.Size.{Size}
use Rattle.bpf_insn.specs.declared.insn.Size.TheVariants as size
use Rattle.bpf_insn.specs.declared.insn.ByteOrder.{ByteOrder}
use Rattle.bpf_insn.specs.declared.insn.ByteOrder.TheVariants as order
use Rattle.bpf_insn.specs.declared.kind.Kind.{Kind}
use Rattle.bpf_insn.specs.declared.kind.Kind.TheVariants as kind

-- arithmetic (section 4.1); a signed division shares the code of the unsigned one
abbrev pub alu_code : AluOp → ℕ
alu_code alu.Add = 0
alu_code alu.Sub = 1
alu_code alu.Mul = 2
alu_code alu.Div = 3
alu_code alu.Or = 4
alu_code alu.And = 5
alu_code alu.Lsh = 6
alu_code alu.Rsh = 7
alu_code alu.Mod = 9
alu_code alu.Xor = 10
alu_code alu.Mov = 11
alu_code alu.Arsh = 12
alu_code alu.Sdiv = 3
alu_code alu.Smod = 9

-- arithmetic on 64 bits is class 7, on 32 bits class 4
abbrev pub alu_class : Bool → ℕ
alu_class true = 7
alu_class false = 4

-- an operation, whether it works on 64 bits, and whether its source is a register
abbrev pub alu_opcode : AluOp → Bool → Bool → ℕ
alu_opcode op wide false = 16 * alu_code op + alu_class wide
alu_opcode op wide true = 16 * alu_code op + 8 + alu_class wide

-- NEG, which has no source
abbrev pub neg_opcode : Bool → ℕ
neg_opcode wide = 0x80 + alu_class wide

-- to little endian, to big endian, and an unconditional swap (section 4.2)
abbrev pub end_code : ByteOrder → ℕ
end_code order.Little = 0xd4
end_code order.Big = 0xdc
end_code order.Swap = 0xd7

-- conditional jumps (section 4.3)
abbrev pub compare_code : Compare → ℕ
compare_code compare.Eq = 1
compare_code compare.Gt = 2
compare_code compare.Ge = 3
compare_code compare.Set = 4
compare_code compare.Ne = 5
compare_code compare.Sgt = 6
compare_code compare.Sge = 7
compare_code compare.Lt = 10
compare_code compare.Le = 11
compare_code compare.Slt = 12
compare_code compare.Sle = 13

-- a jump that compares 64 bits is class 5, one that compares 32 bits class 6
abbrev pub jump_class : Bool → ℕ
jump_class true = 5
jump_class false = 6

-- a comparison, whether it is on 64 bits, and whether its source is a register
abbrev pub branch_opcode : Compare → Bool → Bool → ℕ
branch_opcode c wide false = 16 * compare_code c + jump_class wide
branch_opcode c wide true = 16 * compare_code c + 8 + jump_class wide

-- sizes of loads and stores (section 5)
abbrev pub size_code : Size → ℕ
size_code size.Word = 0
size_code size.Half = 1
size_code size.Byte = 2
size_code size.Double = 3

-- a zero-extending load, and a sign-extending one (sections 5.1 and 5.2)
abbrev pub load_code : Bool → ℕ
load_code false = 0x61
load_code true = 0x81

-- a load of a size, sign-extended or not
abbrev pub load_opcode : Size → Bool → ℕ
load_opcode z signed = load_code signed + 8 * size_code z

-- a store of an immediate, and one of a register
abbrev pub store_opcode : Size → Bool → ℕ
store_opcode z false = 0x62 + 8 * size_code z
store_opcode z true = 0x63 + 8 * size_code z

-- an atomic operation on 64 bits, or on 32 (section 5.3)
abbrev pub atomic_opcode : Bool → ℕ
atomic_opcode true = 0xdb
atomic_opcode false = 0xc3

-- the opcode of each kind of instruction
abbrev pub opcode_of : Kind → ℕ
opcode_of (kind.Alu op wide register) = alu_opcode op wide register
opcode_of (kind.Neg wide) = neg_opcode wide
opcode_of (kind.End o) = end_code o
opcode_of (kind.Branch c wide register) = branch_opcode c wide register
opcode_of kind.Jump = 0x05
opcode_of kind.JumpLong = 0x06
opcode_of kind.Call = 0x85
opcode_of kind.Exit = 0x95
opcode_of (kind.Load z signed) = load_opcode z signed
opcode_of (kind.Store z register) = store_opcode z register
opcode_of (kind.Atomic wide) = atomic_opcode wide
opcode_of kind.LoadWide = 0x18

-- which kinds exist: the offset, not the opcode, makes a division signed; no load extends the sign of eight bytes
abbrev pub IsKind : Kind → Type 0
IsKind (kind.Alu alu.Sdiv wide register) = ⊥
IsKind (kind.Alu alu.Smod wide register) = ⊥
IsKind (kind.Load size.Double true) = ⊥
IsKind _ = Unit {0}
