-- Programs with few abstract states, even without pruning, and no faults.
use Rattle.std.specs.Prelude.{◌≡◌, ℕ, ◌+◌, ◌≤◌, Ok}
use Rattle.bpf_insn.specs.declared.insn.Insn.{Insn}
use Rattle.bpf_decode.specs.Program.{Code, Holds}
use Rattle.bpf_absstate.specs.View.{View}
use Rattle.bpf_rules.specs.declared.ways.Ways.TheVariants.{Nowhere, One, Two}
use Rattle.bpf_rules.specs.Examined.{examined}

-- At most n states are reached from a, each counted once for each path to it, and none of them meets a fault.
pub data IsClear (c : Code) : View → ℕ → Type 0 where
  Ends : (a : View) (n : ℕ) (i : Insn) → Holds c.slots a.pc i →
      examined c.shapes i a ≡ Ok Nowhere → 1 ≤ n → IsClear c a n
  Goes : (a : View) (n : ℕ) (i : Insn) (x : View) (m : ℕ) → Holds c.slots a.pc i →
      examined c.shapes i a ≡ Ok (One x) →
      IsClear c x m → 1 + m ≤ n → IsClear c a n
  Parts : (a : View) (n : ℕ) (i : Insn) (x y : View) (l m : ℕ) → Holds c.slots a.pc i →
      examined c.shapes i a ≡ Ok (Two x y) →
      IsClear c x l → IsClear c y m → 1 + (l + m) ≤ n → IsClear c a n
