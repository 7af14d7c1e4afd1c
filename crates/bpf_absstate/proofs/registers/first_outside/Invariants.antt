use Rattle.std.proofs.Common.{◌≡◌}
use Rattle.bpf_absstate.specs.Inclusion.{values_included}
use Rattle.bpf_absstate.specs.Shared.{held_by}
use Rattle.bpf_absstate.proofs.Pointers.{left_of}
use Rattle.bpf_absstate.proofs.registers.first_outside.Given as goal

abbrev pub invariant-loop-k : goal.invariant-loop-k
invariant-loop-k l = values_included l.rooms l.others (held_by l.a) (held_by l.b) ≡ left_of l.rooms l.others l.a l.b l.k
