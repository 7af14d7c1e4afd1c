-- The names of operations.
use Rattle.std.specs.Prelude.{ℕ, List, bytes_eq, codes, Bool, true, false, if◌then◌else◌, Option, Some, None}
use Rattle.bpf_insn.specs.declared.insn.AluOp.{AluOp}
use Rattle.bpf_insn.specs.declared.insn.AluOp.TheVariants as alu
use Rattle.bpf_insn.specs.declared.insn.Compare.{Compare}
use Rattle.bpf_insn.specs.declared.insn.Compare.TheVariants as compare
use Rattle.bpf_insn.specs.declared.insn.AtomicOp.{AtomicOp}
use Rattle.bpf_insn.specs.declared.insn.AtomicOp.TheVariants as atomic
use Rattle.bpf_insn.specs.declared.insn.Extension.{Extension}
use Rattle.bpf_insn.specs.declared.insn.Extension.TheVariants as extension
use Rattle.bpf_insn.specs.declared.insn.OrderWidth.{OrderWidth}
use Rattle.bpf_insn.specs.declared.insn.OrderWidth.TheVariants as width
use Rattle.bpf_insn.specs.declared.insn.ByteOrder.{ByteOrder}
use Rattle.bpf_insn.specs.declared.insn.ByteOrder.TheVariants as order
use Rattle.bpf_insn.specs.declared.insn.Size.{Size}
use Rattle.bpf_insn.specs.declared.insn.Size.TheVariants as size

-- an operation of arithmetic
abbrev pub alu_named : List ℕ → Option AluOp
alu_named t =
    (if bytes_eq t (codes "add") then Some alu.Add else
    (if bytes_eq t (codes "sub") then Some alu.Sub else
    (if bytes_eq t (codes "mul") then Some alu.Mul else
    (if bytes_eq t (codes "div") then Some alu.Div else
    (if bytes_eq t (codes "or") then Some alu.Or else
    (if bytes_eq t (codes "and") then Some alu.And else
    (if bytes_eq t (codes "lsh") then Some alu.Lsh else
    (if bytes_eq t (codes "rsh") then Some alu.Rsh else
    (if bytes_eq t (codes "mod") then Some alu.Mod else
    (if bytes_eq t (codes "xor") then Some alu.Xor else
    (if bytes_eq t (codes "mov") then Some alu.Mov else
    (if bytes_eq t (codes "arsh") then Some alu.Arsh else
    (if bytes_eq t (codes "sdiv") then Some alu.Sdiv else
    (if bytes_eq t (codes "smod") then Some alu.Smod else None))))))))))))))

-- a comparison of a conditional jump
abbrev pub compare_named : List ℕ → Option Compare
compare_named t =
    (if bytes_eq t (codes "jeq") then Some compare.Eq else
    (if bytes_eq t (codes "jgt") then Some compare.Gt else
    (if bytes_eq t (codes "jge") then Some compare.Ge else
    (if bytes_eq t (codes "jset") then Some compare.Set else
    (if bytes_eq t (codes "jne") then Some compare.Ne else
    (if bytes_eq t (codes "jsgt") then Some compare.Sgt else
    (if bytes_eq t (codes "jsge") then Some compare.Sge else
    (if bytes_eq t (codes "jlt") then Some compare.Lt else
    (if bytes_eq t (codes "jle") then Some compare.Le else
    (if bytes_eq t (codes "jslt") then Some compare.Slt else
    (if bytes_eq t (codes "jsle") then Some compare.Sle else None)))))))))))

-- an atomic operation
abbrev pub atomic_named : List ℕ → Option AtomicOp
atomic_named t =
    (if bytes_eq t (codes "atomic_add") then Some atomic.Add else
    (if bytes_eq t (codes "atomic_or") then Some atomic.Or else
    (if bytes_eq t (codes "atomic_and") then Some atomic.And else
    (if bytes_eq t (codes "atomic_xor") then Some atomic.Xor else
    (if bytes_eq t (codes "fetch_add") then Some atomic.FetchAdd else
    (if bytes_eq t (codes "fetch_or") then Some atomic.FetchOr else
    (if bytes_eq t (codes "fetch_and") then Some atomic.FetchAnd else
    (if bytes_eq t (codes "fetch_xor") then Some atomic.FetchXor else
    (if bytes_eq t (codes "xchg") then Some atomic.Xchg else
    (if bytes_eq t (codes "cmpxchg") then Some atomic.Cmpxchg else None))))))))))

-- a move with sign extension, and whether it is of 64 bits
abbrev pub extension_named : List ℕ → Option (Extension × Bool)
extension_named t =
    (if bytes_eq t (codes "movsx8") then Some (extension.Byte, true) else
    (if bytes_eq t (codes "movsx16") then Some (extension.Half, true) else
    (if bytes_eq t (codes "movsx32") then Some (extension.Word, true) else
    (if bytes_eq t (codes "movsx8_32") then Some (extension.Byte, false) else
    (if bytes_eq t (codes "movsx16_32") then Some (extension.Half, false) else None)))))

-- a byte order and its width
abbrev pub order_named : List ℕ → Option (ByteOrder × OrderWidth)
order_named t =
    (if bytes_eq t (codes "le16") then Some (order.Little, width.Half) else
    (if bytes_eq t (codes "le32") then Some (order.Little, width.Word) else
    (if bytes_eq t (codes "le64") then Some (order.Little, width.Double) else
    (if bytes_eq t (codes "be16") then Some (order.Big, width.Half) else
    (if bytes_eq t (codes "be32") then Some (order.Big, width.Word) else
    (if bytes_eq t (codes "be64") then Some (order.Big, width.Double) else
    (if bytes_eq t (codes "swap16") then Some (order.Swap, width.Half) else
    (if bytes_eq t (codes "swap32") then Some (order.Swap, width.Word) else
    (if bytes_eq t (codes "swap64") then Some (order.Swap, width.Double) else None)))))))))

-- a load, and whether it extends the sign
abbrev pub load_named : List ℕ → Option (Size × Bool)
load_named t =
    (if bytes_eq t (codes "ldxb") then Some (size.Byte, false) else
    (if bytes_eq t (codes "ldxh") then Some (size.Half, false) else
    (if bytes_eq t (codes "ldxw") then Some (size.Word, false) else
    (if bytes_eq t (codes "ldxdw") then Some (size.Double, false) else
    (if bytes_eq t (codes "ldsxb") then Some (size.Byte, true) else
    (if bytes_eq t (codes "ldsxh") then Some (size.Half, true) else
    (if bytes_eq t (codes "ldsxw") then Some (size.Word, true) else None)))))))

-- a store of an immediate
abbrev pub store_named : List ℕ → Option Size
store_named t =
    (if bytes_eq t (codes "stb") then Some size.Byte else
    (if bytes_eq t (codes "sth") then Some size.Half else
    (if bytes_eq t (codes "stw") then Some size.Word else
    (if bytes_eq t (codes "stdw") then Some size.Double else None))))

-- a store of a register
abbrev pub store_register_named : List ℕ → Option Size
store_register_named t =
    (if bytes_eq t (codes "stxb") then Some size.Byte else
    (if bytes_eq t (codes "stxh") then Some size.Half else
    (if bytes_eq t (codes "stxw") then Some size.Word else
    (if bytes_eq t (codes "stxdw") then Some size.Double else None))))
