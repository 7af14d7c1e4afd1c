use Rattle.std.proofs.Common.{subst}
use Rattle.bpf_absval.specs.Leaves.{rooms_of, IsNewest, IsApart}
use Rattle.bpf_absval.proofs.Newest.{none_without, newest_gone, apart_without, other_gone}
use Rattle.bpf_absval.proofs.room.Rooms.forget.Goals as goal

pub invariant_of-self : goal.invariant_of-self
invariant_of-self c =
    let others = rooms_of c.self.inside.tree in
    rw c.in-None.is
    (none_without others (rooms_of c.in_ok-tree-in-None.tree) c.args.label (subst (λ newest. IsApart newest others) c.in-None.is c.self.invariant) c.in_ok-tree-in-None.ensures)

pub returns-then-room-label-clause-ok : goal.returns-then-room-label-clause-ok
returns-then-room-label-clause-ok c =
    let others = rooms_of c.self.inside.tree in
    rw (← c.self.view_is, c.in-Some.is)
    (newest_gone c.in-Some.room others c.args.label (subst (λ newest. IsNewest newest others) c.in-Some.is c.self.invariant.new) c.if-room-label.true)

pub invariant_of-self-in-Some : goal.invariant_of-self-in-Some
invariant_of-self-in-Some c =
    let others = rooms_of c.self.inside.tree in
    rw c.in-Some.is
    (apart_without c.in-Some.room others (rooms_of c.in_ok-tree-in-Some.tree) c.args.label (subst (λ newest. IsApart newest others) c.in-Some.is c.self.invariant)
    c.if-room-label.false c.in_ok-tree-in-Some.ensures)

pub returns-in-Some-clause-ok : goal.returns-in-Some-clause-ok
returns-in-Some-clause-ok c =
    let others = rooms_of c.self.inside.tree in
    rw (← c.self.view_is, c.in-Some.is)
    (other_gone c.in-Some.room others (rooms_of c.in_ok-tree-in-Some.tree) c.args.label (subst (λ newest. IsApart newest others) c.in-Some.is c.self.invariant)
    c.if-room-label.false c.in_ok-tree-in-Some.ensures)
