use Rattle.std.proofs.Common.{◌≡◌, ◌-◌}
use Rattle.bpf_cert_format.specs.Reading.{many, frame_at}
use Rattle.bpf_cert_format.proofs.Loops.{with_front}
use Rattle.bpf_cert_format.proofs.parts.frame_list_at.Given as goal

abbrev pub invariant-loop : goal.invariant-loop
invariant-loop l = with_front l.list.items (many (frame_at l.maps l.frames) (l.frames - l.counter) l.rest) ≡ many (frame_at l.maps l.frames) l.frames l.bytes
