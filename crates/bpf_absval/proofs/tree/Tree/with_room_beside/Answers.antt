use Rattle.std.proofs.Common.{◌+◌, ◌≤◌, arith}
use Rattle.bpf_absval.specs.Leaves.{rooms_of}
use Rattle.bpf_absval.proofs.Forked.{one_between, one_raised}
use Rattle.bpf_absval.proofs.Ordered.{raised_below, raised_above}
use Rattle.bpf_absval.proofs.tree.Tree.with_room_beside.Goals as goal

pub returns-then-room-label : goal.returns-then-room-label
returns-then-room-label c =
    rw (c.max-size.ensures, c.requires.one) (one_raised c.args.room c.args.label c.args.size c.if-room-label.true)

pub with_first-requires-clause-within : goal.with_first-requires-clause-within
with_first-requires-clause-within c = rw c.requires.one (one_between c.args.room)

pub returns-then-label-room : goal.returns-then-label-room
returns-then-label-room c =
    let room = c.args.room in
    rw (raised_below room.label (room.label + 1) c.args.label c.args.size (rooms_of c.args.self.now) (rw c.requires.one (one_between room)) c.if-label-room.true) c.with_first.ensures

pub with_last-requires-clause-within : goal.with_last-requires-clause-within
with_last-requires-clause-within c = rw c.requires.one (one_between c.args.room)

pub returns : goal.returns
returns c =
    let room = c.args.room in
    let behind : room.label + 1 ≤ c.args.label = omega (arith, c.if-label-room.false, c.if-room-label.false) in
    rw (raised_above room.label (room.label + 1) c.args.label c.args.size (rooms_of c.args.self.now) (rw c.requires.one (one_between room)) behind) c.with_last.ensures
