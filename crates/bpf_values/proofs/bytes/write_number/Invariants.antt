use Rattle.std.proofs.Common.{◌≡◌, ◌≤◌, ◌+◌}
use Rattle.bpf_model.specs.Memory.{with_number}
use Rattle.bpf_values.proofs.bytes.write_number.Given as goal

abbrev pub decreases-bytes : goal.decreases-bytes
decreases-bytes l = l.left

abbrev pub invariant-bytes : goal.invariant-bytes
invariant-bytes l =
    record {
      same : with_number l.bytes l.place l.left l.rest ≡ with_number l.initial.bytes l.fn.at l.fn.count l.fn.number;
      inside : l.place + l.left ≤ 512;
    }
