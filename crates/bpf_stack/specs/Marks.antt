-- The marks of slots that have lost their label.
use Rattle.std.specs.Prelude.{ℕ, ◌≡◌, ◌<◌, ◌≤◌, ◌+◌, ◌⊎◌}
use Rattle.bpf_absval.specs.Marked.{is_marked}

-- before the first of `count` indices and after the last, all have a mark as before
abbrev pub StayOutside : ℕ → ℕ → ℕ → ℕ → Type 0
StayOutside first count old new =
    (i : ℕ) → i < 64 → (i < first) ⊎ (first + count ≤ i) → is_marked new i ≡ is_marked old i
