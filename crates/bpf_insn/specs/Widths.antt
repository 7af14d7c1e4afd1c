-- The widths, in bits, of moves with sign extension and of byte order operations.
use Rattle.std.specs.Prelude.{ℕ}
use Rattle.bpf_insn.specs.declared.insn.Extension.{Extension}
use Rattle.bpf_insn.specs.declared.insn.Extension.TheVariants as extension
use Rattle.bpf_insn.specs.declared.insn.OrderWidth.{OrderWidth}
use Rattle.bpf_insn.specs.declared.insn.OrderWidth.TheVariants as width

-- the low bits that MOVSX reads (RFC 9669 section 4.1)
abbrev pub extension_bits : Extension → ℕ
extension_bits extension.Byte = 8
extension_bits extension.Half = 16
extension_bits extension.Word = 32

-- the low bits whose bytes END converts (RFC 9669 section 4.2)
abbrev pub order_bits : OrderWidth → ℕ
order_bits width.Half = 16
order_bits width.Word = 32
order_bits width.Double = 64
