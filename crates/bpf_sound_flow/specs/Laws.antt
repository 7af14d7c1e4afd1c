-- Soundness of the rules, for each kind of instruction.
use Rattle.std.specs.Prelude.{ℕ, ℤ, Bool}
use Rattle.bpf_insn.specs.declared.insn.AluOp.{AluOp}
use Rattle.bpf_insn.specs.declared.insn.ByteOrder.{ByteOrder}
use Rattle.bpf_insn.specs.declared.insn.Compare.{Compare}
use Rattle.bpf_insn.specs.declared.insn.Extension.{Extension}
use Rattle.bpf_insn.specs.declared.insn.OrderWidth.{OrderWidth}
use Rattle.bpf_insn.specs.declared.insn.Insn.{Insn}
use Rattle.bpf_insn.specs.declared.insn.Insn.TheVariants as insn
use Rattle.bpf_insn.specs.declared.insn.Source.{Source}
use Rattle.bpf_insn.specs.declared.insn.Wide.{Wide}
use Rattle.bpf_rules.specs.Covers.{InsnCovers}

-- arithmetic, whatever its operands
abbrev pub AluCovers : Type 0
AluCovers = (op : AluOp) (wide : Bool) (dst : ℕ) (s : Source) → InsnCovers (insn.Alu op wide dst s)

-- sign-extending moves
abbrev pub MovSxCovers : Type 0
MovSxCovers =
    (from : Extension) (wide : Bool) (dst src : ℕ) → InsnCovers (insn.MovSx from wide dst src)

-- negations
abbrev pub NegCovers : Type 0
NegCovers = (wide : Bool) (dst : ℕ) → InsnCovers (insn.Neg wide dst)

-- byte order conversions
abbrev pub EndCovers : Type 0
EndCovers =
    (order : ByteOrder) (width : OrderWidth) (dst : ℕ) → InsnCovers (insn.End order width dst)

-- wide loads
abbrev pub LoadWideCovers : Type 0
LoadWideCovers = (dst : ℕ) (v : Wide) → InsnCovers (insn.LoadWide dst v)

-- jumps with an offset of 16 bits
abbrev pub JumpCovers : Type 0
JumpCovers = (by : ℤ) → InsnCovers (insn.Jump by)

-- jumps with an offset of 32 bits
abbrev pub JumpLongCovers : Type 0
JumpLongCovers = (by : ℤ) → InsnCovers (insn.JumpLong by)

-- conditional jumps
abbrev pub BranchCovers : Type 0
BranchCovers =
    (compare : Compare) (wide : Bool) (dst : ℕ) (s : Source) (by : ℤ) →
    InsnCovers (insn.Branch compare wide dst s by)

-- calls of helpers
abbrev pub CallCovers : Type 0
CallCovers = (helper : ℤ) → InsnCovers (insn.Call helper)

-- local calls
abbrev pub CallLocalCovers : Type 0
CallLocalCovers = (by : ℤ) → InsnCovers (insn.CallLocal by)

-- EXIT
abbrev pub ExitCovers : Type 0
ExitCovers = InsnCovers insn.Exit

-- all except loads, stores and atomics
abbrev pub IsFlow : Insn → Type 0
IsFlow (insn.Load size signed dst src by) = ⊥
IsFlow (insn.Store size dst by s) = ⊥
IsFlow (insn.Atomic op wide dst src by) = ⊥
IsFlow i = Unit {0}

-- all of these
abbrev pub FlowCovers : Type 0
FlowCovers = (i : Insn) → IsFlow i → InsnCovers i
