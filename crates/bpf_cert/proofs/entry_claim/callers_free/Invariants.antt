use Rattle.std.proofs.Common.{◌≡◌, ◌-◌, drop}
use Rattle.bpf_cert.specs.States.{callers_free}
use Rattle.bpf_cert.proofs.entry_claim.callers_free.Given as goal

abbrev pub invariant-loop-k : goal.invariant-loop-k
invariant-loop-k l = callers_free (drop (l.k - 1) l.frames) ≡ callers_free l.frames
