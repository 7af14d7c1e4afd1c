use Rattle.std.proofs.Common.{arith}
use Rattle.bpf_interval.proofs.SoundSigned.{sar_order}
use Rattle.bpf_interval.proofs.signed.SignedInterval.shift_right.Goals as goal

pub between-requires : goal.between-requires
between-requires c =
    rw (c.arithmetic_shift_right_64.ensures, c.arithmetic_shift_right_64-2.ensures)
    (sar_order c.args.count c.signed_order_64-low.result c.signed_order_64-high.result (omega arith) (omega arith) (omega arith))
