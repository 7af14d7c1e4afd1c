-- Whatever state comes next is contained in one of the successors.
use Rattle.bpf_insn.specs.declared.insn.Insn.{Insn}
use Rattle.bpf_insn.specs.declared.insn.Insn.TheVariants as insn
use Rattle.bpf_rules.specs.Covers.{InsnCovers}
use Rattle.bpf_sound_flow.proofs.Flow.{flow_covers}
use Rattle.bpf_sound_memory.proofs.Insns.{load_covers, store_covers, atomic_covers}

pub examined_covers : (i : Insn) → InsnCovers i
examined_covers (insn.Load size signed dst src by) = load_covers size signed dst src by
examined_covers (insn.Store size dst by s) = store_covers size dst by s
examined_covers (insn.Atomic op wide dst src by) = atomic_covers op wide dst src by
examined_covers i = flow_covers i tt
