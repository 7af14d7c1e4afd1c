use Rattle.std.proofs.Common.{◌≡◌, take}
use Rattle.bpf_cert.specs.Built.{built}
use Rattle.bpf_cert.proofs.states.with_frames.Given as goal

abbrev pub invariant-loop-k : goal.invariant-loop-k
invariant-loop-k l = l.state ≡ built (take l.k l.frames)
