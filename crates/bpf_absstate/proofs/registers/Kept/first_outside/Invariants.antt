use Rattle.std.proofs.Common.{◌≡◌, drop}
use Rattle.bpf_absstate.specs.Inclusion.{values_included}
use Rattle.bpf_absstate.proofs.registers.Kept.first_outside.Given as goal

abbrev pub invariant-loop-k : goal.invariant-loop-k
invariant-loop-k l =
    values_included l.rooms l.others l.self l.other ≡ values_included l.rooms l.others (drop l.k l.self) (drop l.k l.other)
