use Rattle.bpf_absval.proofs.Forked.{none_between}
use Rattle.bpf_absval.proofs.room.Rooms.new.Goals as goal

pub invariant_of-result : goal.invariant_of-result
invariant_of-result c = record { order = none_between 0 65536; new = tt }
