use Rattle.std.proofs.Common.{◌<◌, ◌⊎◌, ◌↔◌, ℕ, IsTrue, length, get_or, false}
use Rattle.bpf_decode.proofs.Marks.{IsMadeBelow}
use Rattle.bpf_decode.proofs.targets.mark_each.Given as goal

abbrev pub invariant-loop-at : goal.invariant-loop-at
invariant-loop-at l =
    (t : ℕ) → IsTrue (get_or l.targets t false) ↔ (IsTrue (get_or l.initial.targets t false) ⊎ ((t < length l.targets) × IsMadeBelow l.at l.slots t))
