-- Which instructions read or write memory.
use Rattle.bpf_insn.specs.declared.insn.Insn.{Insn}
use Rattle.bpf_insn.specs.declared.insn.Insn.TheVariants as insn

-- a load, a store or an atomic operation (RFC 9669, sections 5.2 and 5.3)
abbrev pub IsAccess : Insn → Type 0
IsAccess (insn.Load size signed dst src offset) = Unit {0}
IsAccess (insn.Store size dst offset source) = Unit {0}
IsAccess (insn.Atomic op wide dst src offset) = Unit {0}
IsAccess i = ⊥
