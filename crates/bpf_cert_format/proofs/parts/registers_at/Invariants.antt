use Rattle.std.proofs.Common.{◌≡◌, ◌-◌, length, take}
use Rattle.bpf_cert_format.specs.Reading.{many, value_at}
use Rattle.bpf_cert_format.proofs.Loops.{with_front}
use Rattle.bpf_cert_format.proofs.parts.registers_at.Given as goal

abbrev pub invariant-loop-number : goal.invariant-loop-number
invariant-loop-number l = record {
  read : with_front (take l.number l.values) (many (value_at l.maps l.frames) (10 - l.number) l.rest) ≡ many (value_at l.maps l.frames) 10 l.bytes;
  all : length l.values ≡ 10;
}
