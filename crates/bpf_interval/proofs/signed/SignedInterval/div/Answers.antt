use Rattle.std.proofs.Common.{arith}
use Rattle.bpf_interval.proofs.SoundSigned.{quotient_order}
use Rattle.bpf_interval.proofs.signed.SignedInterval.div.Goals as goal

pub between-requires : goal.between-requires
between-requires c =
    rw (c.signed_quotient_64.ensures, c.signed_quotient_64-2.ensures)
    (quotient_order c.args.divisor c.requires.positive c.requires.signed c.signed_order_64-low.result c.signed_order_64-high.result (omega arith) (omega arith) (omega arith))
