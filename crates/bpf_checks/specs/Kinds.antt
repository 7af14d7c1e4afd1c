-- Kinds of instructions.
use Rattle.std.specs.Prelude.{Bool, true, false}
use Rattle.bpf_insn.specs.declared.insn.Insn.{Insn}
use Rattle.bpf_insn.specs.declared.insn.Insn.TheVariants as insn

-- a load, a store or an atomic
abbrev pub is_access : Insn → Bool
is_access (insn.Load size signed dst src by) = true
is_access (insn.Store size dst by s) = true
is_access (insn.Atomic op wide dst src by) = true
is_access i = false
