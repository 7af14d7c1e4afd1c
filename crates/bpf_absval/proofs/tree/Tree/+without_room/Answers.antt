use Rattle.std.proofs.Common.{◌∙◌, sym, ap}
use Rattle.bpf_absval.specs.Leaves.{rooms_of}
use Rattle.bpf_absval.proofs.Forked.{left_parted_without, right_parted_without, left_without, right_without}
use Rattle.bpf_absval.proofs.tree.Tree.+without_room.Goals as goal

pub joined-requires : goal.joined-requires
joined-requires t c =
    left_parted_without _ _ _ _ _ _ _ c.args.label c.pair.invariant c.in_ok-left-in-Fork.ensures c.in_ok-right-in-Fork.ensures.cases

pub returns-then-label-pair : goal.returns-then-label-pair
returns-then-label-pair t c =
    let is = ap rooms_of c.in-Fork.is ∙ sym c.deref-pair.ensures ∙ sym c.pair.view_is in
    left_without _ _ _ _ _ _ _ _ _ c.args.label is c.pair.invariant c.if-label-pair.true
    c.in_ok-left-in-Fork.ensures c.in_ok-right-in-Fork.ensures.cases c.in_ok-tree-in-Fork.ensures

pub joined-requires-in-Fork : goal.joined-requires-in-Fork
joined-requires-in-Fork t c =
    right_parted_without _ _ _ _ _ _ _ c.args.label c.pair.invariant c.in_ok-left-in-Fork-2.ensures.cases c.in_ok-right-in-Fork-2.ensures

pub returns-in-Fork : goal.returns-in-Fork
returns-in-Fork t c =
    let is = ap rooms_of c.in-Fork.is ∙ sym c.deref-pair.ensures ∙ sym c.pair.view_is in
    right_without _ _ _ _ _ _ _ _ _ c.args.label is c.pair.invariant c.if-label-pair.false
    c.in_ok-left-in-Fork-2.ensures.cases c.in_ok-right-in-Fork-2.ensures c.in_ok-tree-in-Fork-2.ensures
