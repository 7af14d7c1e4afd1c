use Rattle.std.proofs.Common.{◌≡◌}
use Rattle.bpf_absval.specs.Unlabelled.{unlabelled}
use Rattle.bpf_absstate.specs.Shared.{held_by}
use Rattle.bpf_absstate.proofs.Pointers.{changed_so_far}
use Rattle.bpf_absstate.proofs.registers.take_labels.Given as goal

abbrev pub invariant-loop-k : goal.invariant-loop-k
invariant-loop-k l = held_by l.values ≡ changed_so_far (unlabelled l.label) (held_by l.initial.values) l.k
