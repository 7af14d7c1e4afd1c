use Rattle.std.proofs.Common.{◌≡◌, ◌≤◌, ◌+◌}
use Rattle.bpf_model.specs.Memory.{without}
use Rattle.bpf_values.proofs.bytes.clear_bytes.Given as goal

abbrev pub decreases-bytes : goal.decreases-bytes
decreases-bytes l = l.left

abbrev pub invariant-bytes : goal.invariant-bytes
invariant-bytes l =
    record {
      same : without l.bytes l.place l.left ≡ without l.initial.bytes l.fn.at l.fn.count;
      inside : l.place + l.left ≤ 512;
    }
