use Rattle.bpf_absval.proofs.Forked.{one_between}
use Rattle.bpf_absval.proofs.tree.Tree.with_last.Goals as goal

pub side_by_side-requires-clause-right : goal.side_by_side-requires-clause-right
side_by_side-requires-clause-right c = one_between c.args.room
