use Rattle.std.proofs.Common.{◌≡◌, ◌-◌}
use Rattle.bpf_cert_format.specs.Reading.{many, room_at}
use Rattle.bpf_cert_format.proofs.Loops.{with_front}
use Rattle.bpf_cert_format.proofs.parts.room_list_at.Given as goal

abbrev pub invariant-loop : goal.invariant-loop
invariant-loop l = with_front l.list.items (many room_at (l.count - l.counter) l.rest) ≡ many room_at l.count l.bytes
