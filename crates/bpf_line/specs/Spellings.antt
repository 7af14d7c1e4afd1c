-- The text of an instruction.
use Rattle.std.specs.Prelude.{ℕ, List, [], ◌++◌, codes, Bool, true, false, ℤ, pos, negsuc, suc}
use Rattle.std.specs.Fmt.{decimal, signed_decimal}
use Rattle.bpf_insn.specs.declared.insn.AluOp.{AluOp}
use Rattle.bpf_insn.specs.declared.insn.Compare.{Compare}
use Rattle.bpf_insn.specs.declared.insn.AtomicOp.{AtomicOp}
use Rattle.bpf_insn.specs.declared.insn.Extension.{Extension}
use Rattle.bpf_insn.specs.declared.insn.OrderWidth.{OrderWidth}
use Rattle.bpf_insn.specs.declared.insn.ByteOrder.{ByteOrder}
use Rattle.bpf_insn.specs.declared.insn.Size.{Size}
use Rattle.bpf_insn.specs.declared.insn.Source.{Source}
use Rattle.bpf_insn.specs.declared.insn.Wide.{Wide}
use Rattle.bpf_insn.specs.declared.insn.Insn.{Insn}
use Rattle.bpf_insn.specs.declared.insn.AluOp.TheVariants as alu
use Rattle.bpf_insn.specs.declared.insn.Compare.TheVariants as compare
use Rattle.bpf_insn.specs.declared.insn.AtomicOp.TheVariants as atomic
use Rattle.bpf_insn.specs.declared.insn.Extension.TheVariants as extension
use Rattle.bpf_insn.specs.declared.insn.OrderWidth.TheVariants as width
use Rattle.bpf_insn.specs.declared.insn.ByteOrder.TheVariants as order
use Rattle.bpf_insn.specs.declared.insn.Size.TheVariants as size
use Rattle.bpf_insn.specs.declared.insn.Source.TheVariants as source
use Rattle.bpf_insn.specs.declared.insn.Wide.TheVariants as wide
use Rattle.bpf_insn.specs.declared.insn.Insn.TheVariants as insn

-- the names of arithmetic
abbrev pub alu_name : AluOp → List ℕ
alu_name alu.Add = codes "add"
alu_name alu.Sub = codes "sub"
alu_name alu.Mul = codes "mul"
alu_name alu.Div = codes "div"
alu_name alu.Or = codes "or"
alu_name alu.And = codes "and"
alu_name alu.Lsh = codes "lsh"
alu_name alu.Rsh = codes "rsh"
alu_name alu.Mod = codes "mod"
alu_name alu.Xor = codes "xor"
alu_name alu.Mov = codes "mov"
alu_name alu.Arsh = codes "arsh"
alu_name alu.Sdiv = codes "sdiv"
alu_name alu.Smod = codes "smod"

-- the names of conditional jumps
abbrev pub compare_name : Compare → List ℕ
compare_name compare.Eq = codes "jeq"
compare_name compare.Gt = codes "jgt"
compare_name compare.Ge = codes "jge"
compare_name compare.Set = codes "jset"
compare_name compare.Ne = codes "jne"
compare_name compare.Sgt = codes "jsgt"
compare_name compare.Sge = codes "jsge"
compare_name compare.Lt = codes "jlt"
compare_name compare.Le = codes "jle"
compare_name compare.Slt = codes "jslt"
compare_name compare.Sle = codes "jsle"

-- the names of atomics
abbrev pub atomic_name : AtomicOp → List ℕ
atomic_name atomic.Add = codes "atomic_add"
atomic_name atomic.Or = codes "atomic_or"
atomic_name atomic.And = codes "atomic_and"
atomic_name atomic.Xor = codes "atomic_xor"
atomic_name atomic.FetchAdd = codes "fetch_add"
atomic_name atomic.FetchOr = codes "fetch_or"
atomic_name atomic.FetchAnd = codes "fetch_and"
atomic_name atomic.FetchXor = codes "fetch_xor"
atomic_name atomic.Xchg = codes "xchg"
atomic_name atomic.Cmpxchg = codes "cmpxchg"

-- the names of moves with sign extension, to 64 bits and to 32
abbrev pub extension_name : Extension → Bool → List ℕ
extension_name extension.Byte true = codes "movsx8"
extension_name extension.Half true = codes "movsx16"
extension_name extension.Word true = codes "movsx32"
extension_name extension.Byte false = codes "movsx8_32"
extension_name extension.Half false = codes "movsx16_32"
extension_name extension.Word false = codes "movsx32_32"

-- the names of byte orders
abbrev pub order_name : ByteOrder → OrderWidth → List ℕ
order_name order.Little width.Half = codes "le16"
order_name order.Little width.Word = codes "le32"
order_name order.Little width.Double = codes "le64"
order_name order.Big width.Half = codes "be16"
order_name order.Big width.Word = codes "be32"
order_name order.Big width.Double = codes "be64"
order_name order.Swap width.Half = codes "swap16"
order_name order.Swap width.Word = codes "swap32"
order_name order.Swap width.Double = codes "swap64"

-- the names of loads, without and with sign extension
abbrev pub load_name : Size → Bool → List ℕ
load_name size.Byte false = codes "ldxb"
load_name size.Half false = codes "ldxh"
load_name size.Word false = codes "ldxw"
load_name size.Double false = codes "ldxdw"
load_name size.Byte true = codes "ldsxb"
load_name size.Half true = codes "ldsxh"
load_name size.Word true = codes "ldsxw"
load_name size.Double true = codes "ldsxdw"

-- the last letters of a store's name
abbrev pub size_name : Size → List ℕ
size_name size.Byte = codes "b"
size_name size.Half = codes "h"
size_name size.Word = codes "w"
size_name size.Double = codes "dw"

-- the suffix of 32-bit operations
abbrev pub suffix : Bool → List ℕ
suffix true = []
suffix false = codes "32"

-- `r0`
abbrev pub register_text : ℕ → List ℕ
register_text r = codes "r" ++ decimal r

-- an offset with its sign
abbrev pub offset_text : ℤ → List ℕ
offset_text (pos n) = codes "+" ++ decimal n
offset_text (negsuc n) = codes "-" ++ decimal (suc n)

-- an immediate or a register
abbrev pub source_text : Source → List ℕ
source_text (source.Imm n) = signed_decimal n
source_text (source.Reg r) = register_text r

-- `[r1+24]`
abbrev pub memory_text : ℕ → ℤ → List ℕ
memory_text r x = codes "[" ++ (register_text r ++ (offset_text x ++ codes "]"))

-- a name and two operands
abbrev pub two_text : List ℕ → List ℕ → List ℕ → List ℕ
two_text name a b = name ++ (codes " " ++ (a ++ (codes ", " ++ b)))

-- a name and one operand
abbrev pub one_text : List ℕ → List ℕ → List ℕ
one_text name a = name ++ (codes " " ++ a)

-- what a wide load loads: `7`, `map 0`, `value 0 8`
abbrev pub wide_text : Wide → List ℕ
wide_text (wide.Number n) = decimal n
wide_text (wide.Map m) = codes "map " ++ decimal m
wide_text (wide.MapValue m o) = codes "value " ++ (decimal m ++ (codes " " ++ decimal o))

-- the text of an instruction, in decimal, with immediates signed, and one space after a comma
abbrev pub text_of : Insn → List ℕ
text_of (insn.Alu op w d s) = two_text (alu_name op ++ suffix w) (register_text d) (source_text s)
text_of (insn.MovSx from w d s) =
    two_text (extension_name from w) (register_text d) (register_text s)
text_of (insn.Neg w d) = one_text (codes "neg" ++ suffix w) (register_text d)
text_of (insn.End order width d) = one_text (order_name order width) (register_text d)
text_of (insn.Jump x) = one_text (codes "ja") (offset_text x)
text_of (insn.JumpLong x) = one_text (codes "ja32") (offset_text x)
text_of (insn.Branch c w d s x) =
    two_text (compare_name c ++ suffix w) (register_text d)
    (source_text s ++ (codes ", " ++ offset_text x))
text_of (insn.Call helper) = one_text (codes "call") (signed_decimal helper)
text_of (insn.CallLocal x) = one_text (codes "call local") (offset_text x)
text_of insn.Exit = codes "exit"
text_of (insn.Load z signed d s x) =
    two_text (load_name z signed) (register_text d) (memory_text s x)
text_of (insn.Store z d x (source.Imm n)) =
    two_text (codes "st" ++ size_name z) (memory_text d x) (signed_decimal n)
text_of (insn.Store z d x (source.Reg r)) =
    two_text (codes "stx" ++ size_name z) (memory_text d x) (register_text r)
text_of (insn.Atomic op w d s x) =
    two_text (atomic_name op ++ suffix w) (memory_text d x) (register_text s)
text_of (insn.LoadWide d v) = two_text (codes "lddw") (register_text d) (wide_text v)
