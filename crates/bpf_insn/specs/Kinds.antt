-- The kind of an opcode.
use Rattle.std.specs.Prelude.{ℕ, ◌/◌, ◌%◌, Bool, true, false, ◌&&◌, not, nat_eq, if◌then◌else◌, Option, Some, None}
use Rattle.bpf_insn.specs.declared.insn.AluOp.{AluOp}
use Rattle.bpf_insn.specs.declared.insn.AluOp.TheVariants as alu
use Rattle.bpf_insn.specs.declared.insn.Compare.{Compare}
use Rattle.bpf_insn.specs.declared.insn.Compare.TheVariants as compare
use Rattle.bpf_insn.specs.declared.insn.Size.{Size}
use Rattle.bpf_insn.specs.declared.insn.Size.TheVariants as size
use Rattle.bpf_insn.specs.declared.insn.ByteOrder.TheVariants as order
use Rattle.bpf_insn.specs.declared.kind.Kind.{Kind}
use Rattle.bpf_insn.specs.declared.kind.Kind.TheVariants as kind

-- the arithmetic operation of a code; the signed divisions share the codes of DIV and MOD (RFC 9669 section 4.1)
abbrev pub op_at : ℕ → Option AluOp
op_at c =
    (if nat_eq c 0 then Some alu.Add
    else (if nat_eq c 1 then Some alu.Sub
    else (if nat_eq c 2 then Some alu.Mul
    else (if nat_eq c 3 then Some alu.Div
    else (if nat_eq c 4 then Some alu.Or
    else (if nat_eq c 5 then Some alu.And
    else (if nat_eq c 6 then Some alu.Lsh
    else (if nat_eq c 7 then Some alu.Rsh
    else (if nat_eq c 9 then Some alu.Mod
    else (if nat_eq c 10 then Some alu.Xor
    else (if nat_eq c 11 then Some alu.Mov
    else (if nat_eq c 12 then Some alu.Arsh
    else None))))))))))))

-- the comparison of a code (RFC 9669 section 4.3)
abbrev pub compare_at : ℕ → Option Compare
compare_at c =
    (if nat_eq c 1 then Some compare.Eq
    else (if nat_eq c 2 then Some compare.Gt
    else (if nat_eq c 3 then Some compare.Ge
    else (if nat_eq c 4 then Some compare.Set
    else (if nat_eq c 5 then Some compare.Ne
    else (if nat_eq c 6 then Some compare.Sgt
    else (if nat_eq c 7 then Some compare.Sge
    else (if nat_eq c 10 then Some compare.Lt
    else (if nat_eq c 11 then Some compare.Le
    else (if nat_eq c 12 then Some compare.Slt
    else (if nat_eq c 13 then Some compare.Sle
    else None)))))))))))

-- the size of a code, 0 to 3 (RFC 9669 section 5)
abbrev pub size_at : ℕ → Size
size_at c =
    (if nat_eq c 0 then size.Word
    else (if nat_eq c 1 then size.Half
    else (if nat_eq c 2 then size.Byte
    else size.Double)))

-- arithmetic on a register or an immediate, in 64 or 32 bits, if the code has an operation
abbrev pub with_op : Option AluOp → Bool → Bool → Option Kind
with_op None register wide = None
with_op (Some op) register wide = Some (kind.Alu op wide register)

-- byte order operations, by source bit and class: ALU64 has only the swap (RFC 9669 section 4.2)
abbrev pub end_at : Bool → Bool → Option Kind
end_at true true = None
end_at false true = Some (kind.End order.Swap)
end_at true false = Some (kind.End order.Big)
end_at false false = Some (kind.End order.Little)

-- the classes ALU and ALU64 by their code: NEG takes no register, END has its own kinds
abbrev pub arithmetic_at : ℕ → Bool → Bool → Option Kind
arithmetic_at c register wide =
    (if nat_eq c 8 then (if register then None else Some (kind.Neg wide))
    else (if nat_eq c 13 then end_at register wide else with_op (op_at c) register wide))

-- a conditional jump, if the code has a comparison
abbrev pub with_compare : Option Compare → Bool → Bool → Option Kind
with_compare None register wide = None
with_compare (Some op) register wide = Some (kind.Branch op wide register)

-- the classes JMP and JMP32 by their code; only JMP has CALL and EXIT (RFC 9669 section 4.3)
abbrev pub branch_at : ℕ → Bool → Bool → Option Kind
branch_at c register wide =
    (if nat_eq c 0
    then (if register then None else (if wide then Some kind.Jump else Some kind.JumpLong))
    else (if nat_eq c 8 then (if wide && not register then Some kind.Call else None)
    else (if nat_eq c 9 then (if wide && not register then Some kind.Exit else None)
    else with_compare (compare_at c) register wide)))

-- a sign-extending load, of fewer than eight bytes (RFC 9669 section 5.2)
abbrev pub signed_load : Size → Option Kind
signed_load size.Double = None
signed_load size.Byte = Some (kind.Load size.Byte true)
signed_load size.Half = Some (kind.Load size.Half true)
signed_load size.Word = Some (kind.Load size.Word true)

-- the class LDX by its mode: MEM or MEMSX (RFC 9669 sections 5.1 and 5.2)
abbrev pub load_at : ℕ → Size → Option Kind
load_at mode z =
    (if nat_eq mode 3 then Some (kind.Load z false)
    else (if nat_eq mode 4 then signed_load z else None))

-- atomics have 4 or 8 bytes (RFC 9669 section 5.3)
abbrev pub atomic_at : Size → Option Kind
atomic_at size.Word = Some (kind.Atomic false)
atomic_at size.Double = Some (kind.Atomic true)
atomic_at size.Byte = None
atomic_at size.Half = None

-- the classes ST and STX by their mode: MEM, or ATOMIC in STX only (RFC 9669 sections 5.1 and 5.3)
abbrev pub store_at : ℕ → Size → Bool → Option Kind
store_at mode z register =
    (if nat_eq mode 3 then Some (kind.Store z register)
    else (if nat_eq mode 6 then (if register then atomic_at z else None) else None))

-- the kind of an opcode, by its class, the low three bits
abbrev pub kind_at : ℕ → Option Kind
kind_at o =
    let register = nat_eq (o / 8 % 2) 1 in
    let z = size_at (o / 8 % 4) in
    (if nat_eq (o % 8) 0 then (if nat_eq o 24 then Some kind.LoadWide else None) else
    (if nat_eq (o % 8) 1 then load_at (o / 32) z else
    (if nat_eq (o % 8) 2 then store_at (o / 32) z false else
    (if nat_eq (o % 8) 3 then store_at (o / 32) z true else
    (if nat_eq (o % 8) 4 then arithmetic_at (o / 16) register false else
    (if nat_eq (o % 8) 5 then branch_at (o / 16) register true else
    (if nat_eq (o % 8) 6 then branch_at (o / 16) register false
    else arithmetic_at (o / 16) register true)))))))
