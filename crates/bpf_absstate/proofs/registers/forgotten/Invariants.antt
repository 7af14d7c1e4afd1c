use Rattle.std.proofs.Common.{◌≡◌}
use Rattle.bpf_absval.specs.Marked.{seen}
use Rattle.bpf_absval.specs.Unlabelled.{unlabelled, bare}
use Rattle.bpf_absstate.specs.Shared.{held_by}
use Rattle.bpf_absstate.proofs.Pointers.{changed_so_far}
use Rattle.bpf_absstate.proofs.registers.forgotten.Given as goal

abbrev pub invariant-loop-k : goal.invariant-loop-k
invariant-loop-k l =
    seen bare l.lost.bits 0 (held_by l.values) ≡ changed_so_far (unlabelled l.label) (seen bare l.fn.marks.bits 0 (held_by l.values)) l.k
