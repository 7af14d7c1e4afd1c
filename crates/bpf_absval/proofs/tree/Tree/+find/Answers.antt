use Rattle.std.proofs.Common.{◌∙◌, sym, ap}
use Rattle.bpf_absval.specs.Leaves.{rooms_of}
use Rattle.bpf_absval.proofs.Forked.{none_found, one_found, one_other, fork_find_left, fork_find_right}
use Rattle.bpf_absval.proofs.tree.Tree.+find.Goals as goal

pub returns-in-Empty : goal.returns-in-Empty
returns-in-Empty t c = rw c.in-Empty.is (none_found c.args.label)

pub returns-then-room-label : goal.returns-then-room-label
returns-then-room-label t c = rw c.in-One.is (one_found c.in-One.room c.args.label c.if-room-label.true)

pub returns-else-room-label : goal.returns-else-room-label
returns-else-room-label t c = rw c.in-One.is (one_other c.in-One.room c.args.label c.if-room-label.false)

pub returns-then-label-pair : goal.returns-then-label-pair
returns-then-label-pair t c =
    let is = ap rooms_of c.in-Fork.is ∙ sym c.deref-pair.ensures ∙ sym c.pair.view_is in
    c.find.ensures ∙ fork_find_left _ _ _ _ _ _ c.args.label is c.pair.invariant c.if-label-pair.true

pub returns-else-label-pair : goal.returns-else-label-pair
returns-else-label-pair t c =
    let is = ap rooms_of c.in-Fork.is ∙ sym c.deref-pair.ensures ∙ sym c.pair.view_is in
    c.find-in-Fork.ensures ∙ fork_find_right _ _ _ _ _ _ c.args.label is c.pair.invariant c.if-label-pair.false
