use Rattle.std.proofs.Common.{◌≡◌, ℕ, ◌<◌, length, get_or, false}
use Rattle.bpf_decode.specs.Code.{starts}
use Rattle.bpf_decode.proofs.slots.starts_of.Given as goal

abbrev pub invariant-loop-at : goal.invariant-loop-at
invariant-loop-at l = record {
  count : length l.table.items ≡ l.at;
  next : l.start ≡ starts l.code l.at;
  told : (k : ℕ) → k < length l.table.items → get_or l.table.items k false ≡ starts l.code k;
}
