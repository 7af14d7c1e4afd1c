use Rattle.std.proofs.Common.{length}
use Rattle.bpf_helpers.proofs.sums.+wide_sum.Given as goal

abbrev pub decreases-wide_sum : goal.decreases-wide_sum
decreases-wide_sum l = length l.tables.now
