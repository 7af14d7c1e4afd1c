use Rattle.std.proofs.Common.{◌≡◌, take}
use Rattle.bpf_cert_format.specs.Slots.{no_slots, slots_after}
use Rattle.bpf_cert_format.proofs.slots.filled.Given as goal

abbrev pub invariant-loop-one : goal.invariant-loop-one
invariant-loop-one l = l.slots ≡ slots_after no_slots (take l.one-index l.known)
