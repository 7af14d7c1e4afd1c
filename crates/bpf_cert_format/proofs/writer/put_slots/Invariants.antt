use Rattle.std.proofs.Common.{◌≡◌, ◌++◌, take}
use Rattle.std.specs.List.{flat_map}
use Rattle.bpf_cert_format.specs.Spelling.{cell}
use Rattle.bpf_cert_format.proofs.writer.put_slots.Given as goal

abbrev pub invariant-loop-slot : goal.invariant-loop-slot
invariant-loop-slot l = l.out.items ≡ l.fn.out.items ++ flat_map cell (take l.slot-index l.slots)
