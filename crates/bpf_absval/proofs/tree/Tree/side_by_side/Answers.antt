use Rattle.std.proofs.Common.{◌+◌, ◌≤◌, arith}
use Rattle.bpf_absval.specs.Leaves.{rooms_of}
use Rattle.bpf_absval.proofs.Ordered.{between_from, between_to}
use Rattle.bpf_absval.proofs.tree.Tree.side_by_side.Goals as goal

pub joined-requires : goal.joined-requires
joined-requires c =
    let low = c.halved-middle.result.0.low in
    let high = c.halved-middle.result.0.high in
    let split = c.min-split.result in
    let behind_left : c.args.before.high + 1 ≤ split = omega (arith, c.max.ensures, c.min-split.ensures, c.requires.apart) in
    let before_right : split ≤ c.args.behind.low = omega (arith, c.min-split.ensures) in
    record {
      begins = omega (arith, behind_left, c.halved-middle.ensures.begins, c.requires.some_before);
      ends = omega (arith, before_right, c.halved-middle.ensures.ends, c.requires.some_behind);
      lower =
          between_from low c.args.before.low split (rooms_of c.args.left) c.halved-middle.ensures.begins
          (between_to c.args.before.low (c.args.before.high + 1) split (rooms_of c.args.left) behind_left c.requires.left);
      upper =
          between_from split c.args.behind.low (high + 1) (rooms_of c.args.right) before_right
          (between_to c.args.behind.low (c.args.behind.high + 1) (high + 1) (rooms_of c.args.right) (omega (arith, c.halved-middle.ensures.ends)) c.requires.right);
    }
