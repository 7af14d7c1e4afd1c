use Rattle.std.proofs.Common.{arith}
use Rattle.bpf_cert_format.proofs.Zeros.{zeros_front}
use Rattle.bpf_cert_format.proofs.parts.begins_unset.Goals as goal

pub returns : goal.returns
returns c = record { is = λ _. zeros_front 64 c.args.bytes.now c.requires.whole (λ k lt. c.loop-index.invariant k (omega (arith, lt, c.loop-index-test.false))) }
