use Rattle.std.proofs.Common.{ℕ, ◌<◌}
use Rattle.bpf_decode.specs.Code.{FaultAt}
use Rattle.bpf_decode.specs.Program.{IsTable}
use Rattle.bpf_decode.proofs.decoder.entries_of.Given as goal

abbrev pub invariant-loop-at : goal.invariant-loop-at
invariant-loop-at l = record {
  table : IsTable l.code l.slots.items l.at;
  clean : (k n : ℕ) → k < l.at → FaultAt l.code l.shapes k n → ⊥;
}
