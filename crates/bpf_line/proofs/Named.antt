-- The names in the text of instructions are words, and are read as their operations.
use Rattle.std.specs.Prelude.{◌≡◌, ℕ, Some, List, [], ◌∷◌, ◌++◌, Bool, true, false, codes, refl}
use Rattle.bpf_insn.specs.declared.insn.AluOp.{AluOp}
use Rattle.bpf_insn.specs.declared.insn.AluOp.TheVariants as alu
use Rattle.bpf_insn.specs.declared.insn.Compare.{Compare}
use Rattle.bpf_insn.specs.declared.insn.Compare.TheVariants as compare
use Rattle.bpf_insn.specs.declared.insn.AtomicOp.{AtomicOp}
use Rattle.bpf_insn.specs.declared.insn.AtomicOp.TheVariants as atomic
use Rattle.bpf_insn.specs.declared.insn.Extension.{Extension}
use Rattle.bpf_insn.specs.declared.insn.Extension.TheVariants as extension
use Rattle.bpf_insn.specs.declared.insn.OrderWidth.{OrderWidth}
use Rattle.bpf_insn.specs.declared.insn.OrderWidth.TheVariants as width
use Rattle.bpf_insn.specs.declared.insn.ByteOrder.{ByteOrder}
use Rattle.bpf_insn.specs.declared.insn.ByteOrder.TheVariants as order
use Rattle.bpf_insn.specs.declared.insn.Size.{Size}
use Rattle.bpf_insn.specs.declared.insn.Size.TheVariants as size
use Rattle.bpf_insn.specs.Spelled.{IsExtension, IsSigned}
use Rattle.bpf_line.specs.Spellings.{alu_name, compare_name, atomic_name, extension_name, order_name, load_name, size_name, suffix}
use Rattle.bpf_line.specs.Lines.{two_said, one_said, said, alu_said, extension_said, load_said, store_said, store_register_said, atomic_said, branch_said, order_said, neg_said}
use Rattle.bpf_line.proofs.Plain.{IsWord, IsWord-test}

pub IsWord-alu : (op : AluOp) (w : Bool) → IsWord (alu_name op ++ suffix w)
IsWord-alu alu.Add true = IsWord-test _ refl
IsWord-alu alu.Add false = IsWord-test _ refl
IsWord-alu alu.Sub true = IsWord-test _ refl
IsWord-alu alu.Sub false = IsWord-test _ refl
IsWord-alu alu.Mul true = IsWord-test _ refl
IsWord-alu alu.Mul false = IsWord-test _ refl
IsWord-alu alu.Div true = IsWord-test _ refl
IsWord-alu alu.Div false = IsWord-test _ refl
IsWord-alu alu.Or true = IsWord-test _ refl
IsWord-alu alu.Or false = IsWord-test _ refl
IsWord-alu alu.And true = IsWord-test _ refl
IsWord-alu alu.And false = IsWord-test _ refl
IsWord-alu alu.Lsh true = IsWord-test _ refl
IsWord-alu alu.Lsh false = IsWord-test _ refl
IsWord-alu alu.Rsh true = IsWord-test _ refl
IsWord-alu alu.Rsh false = IsWord-test _ refl
IsWord-alu alu.Mod true = IsWord-test _ refl
IsWord-alu alu.Mod false = IsWord-test _ refl
IsWord-alu alu.Xor true = IsWord-test _ refl
IsWord-alu alu.Xor false = IsWord-test _ refl
IsWord-alu alu.Mov true = IsWord-test _ refl
IsWord-alu alu.Mov false = IsWord-test _ refl
IsWord-alu alu.Arsh true = IsWord-test _ refl
IsWord-alu alu.Arsh false = IsWord-test _ refl
IsWord-alu alu.Sdiv true = IsWord-test _ refl
IsWord-alu alu.Sdiv false = IsWord-test _ refl
IsWord-alu alu.Smod true = IsWord-test _ refl
IsWord-alu alu.Smod false = IsWord-test _ refl

pub two_said-alu : (op : AluOp) (w : Bool) (a b : List ℕ) → two_said (alu_name op ++ suffix w) a b ≡ alu_said op w a b
two_said-alu alu.Add true a b = refl
two_said-alu alu.Add false a b = refl
two_said-alu alu.Sub true a b = refl
two_said-alu alu.Sub false a b = refl
two_said-alu alu.Mul true a b = refl
two_said-alu alu.Mul false a b = refl
two_said-alu alu.Div true a b = refl
two_said-alu alu.Div false a b = refl
two_said-alu alu.Or true a b = refl
two_said-alu alu.Or false a b = refl
two_said-alu alu.And true a b = refl
two_said-alu alu.And false a b = refl
two_said-alu alu.Lsh true a b = refl
two_said-alu alu.Lsh false a b = refl
two_said-alu alu.Rsh true a b = refl
two_said-alu alu.Rsh false a b = refl
two_said-alu alu.Mod true a b = refl
two_said-alu alu.Mod false a b = refl
two_said-alu alu.Xor true a b = refl
two_said-alu alu.Xor false a b = refl
two_said-alu alu.Mov true a b = refl
two_said-alu alu.Mov false a b = refl
two_said-alu alu.Arsh true a b = refl
two_said-alu alu.Arsh false a b = refl
two_said-alu alu.Sdiv true a b = refl
two_said-alu alu.Sdiv false a b = refl
two_said-alu alu.Smod true a b = refl
two_said-alu alu.Smod false a b = refl

pub IsWord-compare : (c : Compare) (w : Bool) → IsWord (compare_name c ++ suffix w)
IsWord-compare compare.Eq true = IsWord-test _ refl
IsWord-compare compare.Eq false = IsWord-test _ refl
IsWord-compare compare.Gt true = IsWord-test _ refl
IsWord-compare compare.Gt false = IsWord-test _ refl
IsWord-compare compare.Ge true = IsWord-test _ refl
IsWord-compare compare.Ge false = IsWord-test _ refl
IsWord-compare compare.Set true = IsWord-test _ refl
IsWord-compare compare.Set false = IsWord-test _ refl
IsWord-compare compare.Ne true = IsWord-test _ refl
IsWord-compare compare.Ne false = IsWord-test _ refl
IsWord-compare compare.Sgt true = IsWord-test _ refl
IsWord-compare compare.Sgt false = IsWord-test _ refl
IsWord-compare compare.Sge true = IsWord-test _ refl
IsWord-compare compare.Sge false = IsWord-test _ refl
IsWord-compare compare.Lt true = IsWord-test _ refl
IsWord-compare compare.Lt false = IsWord-test _ refl
IsWord-compare compare.Le true = IsWord-test _ refl
IsWord-compare compare.Le false = IsWord-test _ refl
IsWord-compare compare.Slt true = IsWord-test _ refl
IsWord-compare compare.Slt false = IsWord-test _ refl
IsWord-compare compare.Sle true = IsWord-test _ refl
IsWord-compare compare.Sle false = IsWord-test _ refl

pub said-branch : (k : Compare) (w : Bool) (a b c : List ℕ) → said ((compare_name k ++ suffix w) ∷ a ∷ codes "," ∷ b ∷ codes "," ∷ c ∷ []) ≡ branch_said (Some k) w a b c
said-branch compare.Eq true a b c = refl
said-branch compare.Eq false a b c = refl
said-branch compare.Gt true a b c = refl
said-branch compare.Gt false a b c = refl
said-branch compare.Ge true a b c = refl
said-branch compare.Ge false a b c = refl
said-branch compare.Set true a b c = refl
said-branch compare.Set false a b c = refl
said-branch compare.Ne true a b c = refl
said-branch compare.Ne false a b c = refl
said-branch compare.Sgt true a b c = refl
said-branch compare.Sgt false a b c = refl
said-branch compare.Sge true a b c = refl
said-branch compare.Sge false a b c = refl
said-branch compare.Lt true a b c = refl
said-branch compare.Lt false a b c = refl
said-branch compare.Le true a b c = refl
said-branch compare.Le false a b c = refl
said-branch compare.Slt true a b c = refl
said-branch compare.Slt false a b c = refl
said-branch compare.Sle true a b c = refl
said-branch compare.Sle false a b c = refl

pub IsWord-atomic : (op : AtomicOp) (w : Bool) → IsWord (atomic_name op ++ suffix w)
IsWord-atomic atomic.Add true = IsWord-test _ refl
IsWord-atomic atomic.Add false = IsWord-test _ refl
IsWord-atomic atomic.Or true = IsWord-test _ refl
IsWord-atomic atomic.Or false = IsWord-test _ refl
IsWord-atomic atomic.And true = IsWord-test _ refl
IsWord-atomic atomic.And false = IsWord-test _ refl
IsWord-atomic atomic.Xor true = IsWord-test _ refl
IsWord-atomic atomic.Xor false = IsWord-test _ refl
IsWord-atomic atomic.FetchAdd true = IsWord-test _ refl
IsWord-atomic atomic.FetchAdd false = IsWord-test _ refl
IsWord-atomic atomic.FetchOr true = IsWord-test _ refl
IsWord-atomic atomic.FetchOr false = IsWord-test _ refl
IsWord-atomic atomic.FetchAnd true = IsWord-test _ refl
IsWord-atomic atomic.FetchAnd false = IsWord-test _ refl
IsWord-atomic atomic.FetchXor true = IsWord-test _ refl
IsWord-atomic atomic.FetchXor false = IsWord-test _ refl
IsWord-atomic atomic.Xchg true = IsWord-test _ refl
IsWord-atomic atomic.Xchg false = IsWord-test _ refl
IsWord-atomic atomic.Cmpxchg true = IsWord-test _ refl
IsWord-atomic atomic.Cmpxchg false = IsWord-test _ refl

pub two_said-atomic : (op : AtomicOp) (w : Bool) (a b : List ℕ) → two_said (atomic_name op ++ suffix w) a b ≡ atomic_said op w a b
two_said-atomic atomic.Add true a b = refl
two_said-atomic atomic.Add false a b = refl
two_said-atomic atomic.Or true a b = refl
two_said-atomic atomic.Or false a b = refl
two_said-atomic atomic.And true a b = refl
two_said-atomic atomic.And false a b = refl
two_said-atomic atomic.Xor true a b = refl
two_said-atomic atomic.Xor false a b = refl
two_said-atomic atomic.FetchAdd true a b = refl
two_said-atomic atomic.FetchAdd false a b = refl
two_said-atomic atomic.FetchOr true a b = refl
two_said-atomic atomic.FetchOr false a b = refl
two_said-atomic atomic.FetchAnd true a b = refl
two_said-atomic atomic.FetchAnd false a b = refl
two_said-atomic atomic.FetchXor true a b = refl
two_said-atomic atomic.FetchXor false a b = refl
two_said-atomic atomic.Xchg true a b = refl
two_said-atomic atomic.Xchg false a b = refl
two_said-atomic atomic.Cmpxchg true a b = refl
two_said-atomic atomic.Cmpxchg false a b = refl

pub IsWord-extension : (e : Extension) (w : Bool) → IsWord (extension_name e w)
IsWord-extension extension.Byte true = IsWord-test _ refl
IsWord-extension extension.Half true = IsWord-test _ refl
IsWord-extension extension.Word true = IsWord-test _ refl
IsWord-extension extension.Byte false = IsWord-test _ refl
IsWord-extension extension.Half false = IsWord-test _ refl
IsWord-extension extension.Word false = IsWord-test _ refl

pub two_said-extension : (e : Extension) (w : Bool) (a b : List ℕ) → IsExtension w e → two_said (extension_name e w) a b ≡ extension_said (e, w) a b
two_said-extension extension.Byte true a b h = refl
two_said-extension extension.Half true a b h = refl
two_said-extension extension.Word true a b h = refl
two_said-extension extension.Byte false a b h = refl
two_said-extension extension.Half false a b h = refl
two_said-extension extension.Word false a b h = absurd (h refl)

pub IsWord-order : (o : ByteOrder) (w : OrderWidth) → IsWord (order_name o w)
IsWord-order order.Little width.Half = IsWord-test _ refl
IsWord-order order.Little width.Word = IsWord-test _ refl
IsWord-order order.Little width.Double = IsWord-test _ refl
IsWord-order order.Big width.Half = IsWord-test _ refl
IsWord-order order.Big width.Word = IsWord-test _ refl
IsWord-order order.Big width.Double = IsWord-test _ refl
IsWord-order order.Swap width.Half = IsWord-test _ refl
IsWord-order order.Swap width.Word = IsWord-test _ refl
IsWord-order order.Swap width.Double = IsWord-test _ refl

pub one_said-order : (o : ByteOrder) (w : OrderWidth) (a : List ℕ) → one_said (order_name o w) a ≡ order_said (Some (o, w)) a
one_said-order order.Little width.Half a = refl
one_said-order order.Little width.Word a = refl
one_said-order order.Little width.Double a = refl
one_said-order order.Big width.Half a = refl
one_said-order order.Big width.Word a = refl
one_said-order order.Big width.Double a = refl
one_said-order order.Swap width.Half a = refl
one_said-order order.Swap width.Word a = refl
one_said-order order.Swap width.Double a = refl

pub IsWord-load : (z : Size) (s : Bool) → IsWord (load_name z s)
IsWord-load size.Byte false = IsWord-test _ refl
IsWord-load size.Half false = IsWord-test _ refl
IsWord-load size.Word false = IsWord-test _ refl
IsWord-load size.Double false = IsWord-test _ refl
IsWord-load size.Byte true = IsWord-test _ refl
IsWord-load size.Half true = IsWord-test _ refl
IsWord-load size.Word true = IsWord-test _ refl
IsWord-load size.Double true = IsWord-test _ refl

pub two_said-load : (z : Size) (s : Bool) (a b : List ℕ) → IsSigned s z → two_said (load_name z s) a b ≡ load_said (z, s) a b
two_said-load size.Byte false a b h = refl
two_said-load size.Half false a b h = refl
two_said-load size.Word false a b h = refl
two_said-load size.Double false a b h = refl
two_said-load size.Byte true a b h = refl
two_said-load size.Half true a b h = refl
two_said-load size.Word true a b h = refl
two_said-load size.Double true a b h = absurd (h refl)

pub IsWord-store : (z : Size) → IsWord (codes "st" ++ size_name z)
IsWord-store size.Byte = IsWord-test _ refl
IsWord-store size.Half = IsWord-test _ refl
IsWord-store size.Word = IsWord-test _ refl
IsWord-store size.Double = IsWord-test _ refl

pub two_said-store : (z : Size) (a b : List ℕ) → two_said (codes "st" ++ size_name z) a b ≡ store_said z a b
two_said-store size.Byte a b = refl
two_said-store size.Half a b = refl
two_said-store size.Word a b = refl
two_said-store size.Double a b = refl

pub IsWord-store_register : (z : Size) → IsWord (codes "stx" ++ size_name z)
IsWord-store_register size.Byte = IsWord-test _ refl
IsWord-store_register size.Half = IsWord-test _ refl
IsWord-store_register size.Word = IsWord-test _ refl
IsWord-store_register size.Double = IsWord-test _ refl

pub two_said-store_register : (z : Size) (a b : List ℕ) → two_said (codes "stx" ++ size_name z) a b ≡ store_register_said z a b
two_said-store_register size.Byte a b = refl
two_said-store_register size.Half a b = refl
two_said-store_register size.Word a b = refl
two_said-store_register size.Double a b = refl

pub IsWord-neg : (w : Bool) → IsWord (codes "neg" ++ suffix w)
IsWord-neg true = IsWord-test _ refl
IsWord-neg false = IsWord-test _ refl

pub one_said-neg : (w : Bool) (a : List ℕ) → one_said (codes "neg" ++ suffix w) a ≡ neg_said w a
one_said-neg true a = refl
one_said-neg false a = refl
