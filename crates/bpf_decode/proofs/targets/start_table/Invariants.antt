use Rattle.std.proofs.Common.{◌≡◌, ◌<◌, ◌↔◌, ℕ, IsTrue, length, get_or, false}
use Rattle.bpf_decode.proofs.targets.start_table.Given as goal

abbrev pub invariant-loop-at : goal.invariant-loop-at
invariant-loop-at l = record {
  len : length l.targets.items ≡ l.at;
  told : (t : ℕ) → IsTrue (get_or l.targets.items t false) ↔ ((t < l.at) × (t ≡ 0));
}
