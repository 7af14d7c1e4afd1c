use Rattle.std.proofs.Common.{◌≡◌, take}
use Rattle.bpf_cert_format.specs.Slots.{no_slots, slots_after}
use Rattle.bpf_cert.specs.Built.{with_stack}
use Rattle.bpf_cert.proofs.states.put_stack.Given as goal

abbrev pub invariant-loop-one : goal.invariant-loop-one
invariant-loop-one l = l.state ≡ with_stack l.fn.state l.k (slots_after no_slots (take l.one-index l.known))
