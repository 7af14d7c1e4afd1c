use Rattle.std.proofs.Common.{ap, ◌∙◌, List, get_or}
use Rattle.bpf_absval.specs.declared.room.Room.{Room}
use Rattle.bpf_absstate.specs.View.{View, with_room}
use Rattle.bpf_cert.proofs.Roomy.{room_more}
use Rattle.bpf_cert.proofs.states.put_rooms.Goals as goal

pub loop-room-preserved : goal.loop-room-preserved
loop-room-preserved c =
    let rs = c.args.rooms.now in
    let i = c.loop-room.room-index in
    let none : Room = record { label = 0; size = 0 } in
    c.in_ok-raise_room.ensures.ok ∙ ap (λ (s : View). with_room s (get_or rs i none).label (get_or rs i none).size) c.loop-room.invariant
    ∙ ap (λ (xs : List Room). record c.args.state.now { rooms = xs }) (room_more rs i none c.loop-room-test.true c.requires.rise)
