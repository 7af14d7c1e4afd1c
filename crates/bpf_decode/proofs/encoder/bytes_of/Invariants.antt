use Rattle.std.proofs.Common.{◌≡◌, ◌*◌, ℕ, List, take}
use Rattle.bpf_decode.specs.Code.{count}
use Rattle.bpf_decode.specs.Program.{IsTable}
use Rattle.bpf_decode.proofs.encoder.bytes_of.Given as goal

abbrev pub invariant-loop-at : goal.invariant-loop-at
invariant-loop-at l = (bytes : List ℕ) → IsTable bytes l.slots (count bytes) → l.bytes.items ≡ take (8 * l.at) bytes
