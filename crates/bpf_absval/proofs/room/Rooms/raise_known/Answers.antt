use Rattle.std.proofs.Common.{◌∙◌, ap, sym}
use Rattle.bpf_absval.specs.Leaves.{rooms_of}
use Rattle.bpf_absval.specs.Rooms.{raised}
use Rattle.bpf_absval.proofs.Newest.{all_between, newest_raised, apart_raised}
use Rattle.bpf_absval.proofs.Ordered.{raised_known}
use Rattle.bpf_absval.proofs.room.Rooms.raise_known.Goals as goal

pub returns-then-room-label-clause-ok : goal.returns-then-room-label-clause-ok
returns-then-room-label-clause-ok c =
    rw (← c.self.view_is, c.in-Some.is, c.max-size.ensures)
    (newest_raised c.in-Some.room (rooms_of c.self.inside.tree) c.args.label c.args.size c.if-room-label.true)

pub returns-then-size-known-clause-ok : goal.returns-then-size-known-clause-ok
returns-then-size-known-clause-ok c =
    sym (raised_known 0 65536 c.args.label c.args.size c.args.known c.args.self.now
    (rw (← c.self.view_is) (all_between c.self.inside.newest (rooms_of c.self.inside.tree) c.self.invariant)) (sym c.requires) c.if-size-known.true)

pub invariant_of-self-2 : goal.invariant_of-self-2
invariant_of-self-2 c =
    apart_raised c.args.label c.args.size c.args.self.now (rooms_of c.in_ok-tree.tree)
    (rw (← c.self.view_is) (all_between c.self.inside.newest (rooms_of c.self.inside.tree) c.self.invariant))
    c.ranges.label.fits (c.in_ok-tree.ensures ∙ ap (λ rooms. raised rooms c.args.label c.args.size) c.in_ok-all.ensures)
