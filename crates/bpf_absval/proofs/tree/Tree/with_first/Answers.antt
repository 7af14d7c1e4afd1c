use Rattle.bpf_absval.proofs.Forked.{one_between}
use Rattle.bpf_absval.proofs.tree.Tree.with_first.Goals as goal

pub side_by_side-requires-clause-left : goal.side_by_side-requires-clause-left
side_by_side-requires-clause-left c = one_between c.args.room
