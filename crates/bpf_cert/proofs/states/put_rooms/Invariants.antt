use Rattle.std.proofs.Common.{◌≡◌, take}
use Rattle.bpf_cert.proofs.states.put_rooms.Given as goal

abbrev pub invariant-loop-room : goal.invariant-loop-room
invariant-loop-room l = l.state ≡ record l.fn.state { rooms = take l.room-index l.rooms }
