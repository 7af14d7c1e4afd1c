use Rattle.std.proofs.Common.{◌+◌, ◌≤◌, ◌∙◌, sym, ap, arith}
use Rattle.bpf_absval.specs.Leaves.{rooms_of}
use Rattle.bpf_absval.proofs.Forked.{none_raised, fork_between, left_parted, right_parted, left_raised, right_raised}
use Rattle.bpf_absval.proofs.Ordered.{raised_below, raised_above}
use Rattle.bpf_absval.proofs.tree.Tree.+with_room.Goals as goal

pub returns-in-Empty : goal.returns-in-Empty
returns-in-Empty t c = rw c.in-Empty.is (none_raised c.args.label c.args.size)

pub with_first-requires-clause-within : goal.with_first-requires-clause-within
with_first-requires-clause-within t c =
    let is = ap rooms_of c.in-Fork.is ∙ sym c.deref-pair.ensures ∙ sym c.pair.view_is in
    rw is (fork_between _ _ _ _ _ c.pair.invariant)

pub returns-then-label-pair : goal.returns-then-label-pair
returns-then-label-pair t c =
    let is = ap rooms_of c.in-Fork.is ∙ sym c.deref-pair.ensures ∙ sym c.pair.view_is in
    let span = c.pair.inside.span in
    rw (raised_below span.low (span.high + 1) c.args.label c.args.size (rooms_of c.args.self.now) (rw is (fork_between _ _ _ _ _ c.pair.invariant)) c.if-label-pair.true) c.with_first.ensures

pub with_last-requires-clause-within : goal.with_last-requires-clause-within
with_last-requires-clause-within t c =
    let is = ap rooms_of c.in-Fork.is ∙ sym c.deref-pair.ensures ∙ sym c.pair.view_is in
    rw is (fork_between _ _ _ _ _ c.pair.invariant)

pub returns-then-pair-label : goal.returns-then-pair-label
returns-then-pair-label t c =
    let is = ap rooms_of c.in-Fork.is ∙ sym c.deref-pair.ensures ∙ sym c.pair.view_is in
    let span = c.pair.inside.span in
    let behind : span.high + 1 ≤ c.args.label = omega (arith, c.if-pair-label.true) in
    rw (raised_above span.low (span.high + 1) c.args.label c.args.size (rooms_of c.args.self.now) (rw is (fork_between _ _ _ _ _ c.pair.invariant)) behind) c.with_last.ensures

pub joined-requires : goal.joined-requires
joined-requires t c =
    left_parted _ _ _ _ _ _ _ c.args.label c.args.size c.pair.invariant c.if-label-pair.false c.if-label-pair-2.true
    c.in_ok-left-in-Fork.ensures c.in_ok-right-in-Fork.ensures.cases

pub returns-then-label-pair-2 : goal.returns-then-label-pair-2
returns-then-label-pair-2 t c =
    let is = ap rooms_of c.in-Fork.is ∙ sym c.deref-pair.ensures ∙ sym c.pair.view_is in
    left_raised _ _ _ _ _ _ _ _ _ c.args.label c.args.size is c.pair.invariant c.if-label-pair-2.true
    c.in_ok-left-in-Fork.ensures c.in_ok-right-in-Fork.ensures.cases c.in_ok-tree-in-Fork.ensures

pub joined-requires-in-Fork : goal.joined-requires-in-Fork
joined-requires-in-Fork t c =
    right_parted _ _ _ _ _ _ _ c.args.label c.args.size c.pair.invariant c.if-label-pair-2.false c.if-pair-label.false
    c.in_ok-left-in-Fork-2.ensures.cases c.in_ok-right-in-Fork-2.ensures

pub returns-in-Fork : goal.returns-in-Fork
returns-in-Fork t c =
    let is = ap rooms_of c.in-Fork.is ∙ sym c.deref-pair.ensures ∙ sym c.pair.view_is in
    right_raised _ _ _ _ _ _ _ _ _ c.args.label c.args.size is c.pair.invariant c.if-label-pair-2.false
    c.in_ok-left-in-Fork-2.ensures.cases c.in_ok-right-in-Fork-2.ensures c.in_ok-tree-in-Fork-2.ensures
