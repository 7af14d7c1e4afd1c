use Rattle.std.proofs.Common.{◌≡◌, ◌-◌}
use Rattle.bpf_cert_format.specs.Reading.{many, entry_at}
use Rattle.bpf_cert_format.proofs.Loops.{with_front}
use Rattle.bpf_cert_format.proofs.Places.{IsLast}
use Rattle.bpf_cert_format.proofs.reader.leaf_list_at.Given as goal

abbrev pub invariant-loop : goal.invariant-loop
invariant-loop l = record {
  read : with_front l.list.items (many (entry_at l.maps) (l.count - l.counter) l.rest) ≡ many (entry_at l.maps) l.count l.bytes;
  last : IsLast l.bytes l.rest;
}
