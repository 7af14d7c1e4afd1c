use Rattle.std.proofs.Common.{arith}
use Rattle.blockack.proofs.ScoreboardLaws.{shift_bit, past_bit}
use Rattle.blockack.proofs.scoreboard.shifted.Goals as goal

pub returns-then-by-lt64-clause-bits : goal.returns-then-by-lt64-clause-bits
returns-then-by-lt64-clause-bits c = λ i. shift_bit c.args.bits c.args.by i

pub returns-else-by-lt64-clause-bits : goal.returns-else-by-lt64-clause-bits
returns-else-by-lt64-clause-bits c = λ i. past_bit c.args.bits c.args.by i (omega arith) (omega arith)
