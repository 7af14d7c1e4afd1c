use Rattle.std.proofs.Common.{◌-◌}
use Rattle.bpf_absval.proofs.tree.+halved.Given as goal

abbrev pub decreases-halved : goal.decreases-halved
decreases-halved l = l.span.high - l.span.low
