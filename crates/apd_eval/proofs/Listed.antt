-- The lines of a profile, one after another.
use Rattle.std.proofs.Common.{◌≡◌, ◌∙◌, ◌+◌, ◌++◌, ℕ, suc, Bool, List, Option, slice_get, slice_index, ap, arith, append_assoc}
use Rattle.bpf_insn.specs.declared.insn.Insn.{Insn}
use Rattle.apd_eval.specs.Profile.{line_at, slot_lines}

pub next_line : (json : Bool) (slots : List (Option Insn)) (counts : List ℕ) (n : ℕ) (first old new : List ℕ) → old ≡ first ++ slot_lines json slots counts n
    → new ≡ old ++ line_at json n (slice_index counts n) (slice_get slots n) → new ≡ first ++ slot_lines json slots counts (n + 1)
next_line json slots counts n first old new is grown =
    let next : n + 1 ≡ suc n = omega arith in
    rw next (grown ∙ (ap (λ t. t ++ line_at json n (slice_index counts n) (slice_get slots n)) is ∙ append_assoc first (slot_lines json slots counts n) (line_at json n (slice_index counts n) (slice_get slots n))))
