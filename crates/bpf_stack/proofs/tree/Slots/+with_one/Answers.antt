use Rattle.std.proofs.Common.{◌<◌, ◌/◌, ◌-◌, ◌∙◌, arith}
use Rattle.bpf_stack.specs.Leaves.{slots_of}
use Rattle.bpf_stack.proofs.Sides.{half_power, second_half, one_left, one_right, even_left, even_right}
use Rattle.bpf_stack.proofs.tree.Slots.+with_one.Goals as goal

pub with_one-requires : goal.with_one-requires
with_one-requires t c =
    let some : 0 < c.args.depth = omega arith in
    (omega arith, (half_power c.args.count c.args.depth c.requires.whole some, c.if-index-half.true))

pub with_one-requires-2 : goal.with_one-requires-2
with_one-requires-2 t c =
    let some : 0 < c.args.depth = omega arith in
    let half = half_power c.args.count c.args.depth c.requires.whole some in
    (omega arith, (half, second_half c.args.count c.args.depth c.args.index c.requires.whole some c.requires.within c.if-index-half.false))

pub joined-requires : goal.joined-requires
joined-requires t c =
    let some : 0 < c.args.depth = omega arith in
    record { even = even_left c.args.count c.args.depth c.args.index c.args.slot (slots_of c.in_ok-left.left) c.requires.whole some c.in_ok-left.ensures }

pub joined-requires-2 : goal.joined-requires-2
joined-requires-2 t c =
    let some : 0 < c.args.depth = omega arith in
    record { even = even_right c.args.count c.args.depth (c.args.index - c.args.count / 2) c.args.slot (slots_of c.in_ok-right.right) c.requires.whole some c.in_ok-right.ensures }

pub returns-then-index-half : goal.returns-then-index-half
returns-then-index-half t c =
    let some : 0 < c.args.depth = omega arith in
    let left = one_left c.args.count c.args.depth c.args.index c.args.slot (slots_of c.in_ok-left.left) c.requires.whole some c.if-index-half.true c.in_ok-left.ensures in
    c.in_ok-slots.ensures ∙ left

pub returns : goal.returns
returns t c =
    let some : 0 < c.args.depth = omega arith in
    let right = one_right c.args.count c.args.depth c.args.index c.args.slot (slots_of c.in_ok-right.right) c.requires.whole some c.if-index-half.false c.in_ok-right.ensures in
    c.in_ok-slots-2.ensures ∙ right
