use Rattle.std.proofs.Common.{◌≡◌, ◌++◌, take}
use Rattle.std.specs.List.{flat_map}
use Rattle.bpf_cert_format.specs.Spelling.{room}
use Rattle.bpf_cert_format.proofs.writer.put_room_list.Given as goal

abbrev pub invariant-loop-room : goal.invariant-loop-room
invariant-loop-room l = l.out.items ≡ l.fn.out.items ++ flat_map room (take l.room-index l.rooms)
