use Rattle.std.proofs.Common.{◌∙◌, subst}
use Rattle.bpf_absval.specs.Leaves.{rooms_of, IsNewest}
use Rattle.bpf_absval.proofs.Newest.{newest_found, other_found}
use Rattle.bpf_absval.proofs.room.Rooms.find.Goals as goal

pub returns-then-room-label : goal.returns-then-room-label
returns-then-room-label c =
    let others = rooms_of c.self.inside.tree in
    rw (← c.self.view_is, c.in-Some.is)
    (newest_found c.in-Some.room others c.args.label (subst (λ newest. IsNewest newest others) c.in-Some.is c.self.invariant.new) c.if-room-label.true)

pub returns-else-room-label : goal.returns-else-room-label
returns-else-room-label c =
    rw (← c.self.view_is, c.in-Some.is)
    (c.find-in-Some.ensures ∙ other_found c.in-Some.room (rooms_of c.self.inside.tree) c.args.label c.if-room-label.false)
