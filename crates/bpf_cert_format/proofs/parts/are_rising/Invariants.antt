use Rattle.std.proofs.Common.{◌≡◌, drop}
use Rattle.bpf_cert_format.specs.Reading.{are_rising}
use Rattle.bpf_cert_format.proofs.parts.are_rising.Given as goal

abbrev pub invariant-loop-room : goal.invariant-loop-room
invariant-loop-room l = are_rising l.above (drop l.room-index l.rooms) ≡ are_rising 0 l.rooms
