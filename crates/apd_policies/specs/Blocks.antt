-- Blocks: runs of instructions that control enters only at the first, and leaves only after the last.
use Rattle.std.specs.Prelude.{◌≡◌, ◌⊎◌, ◌+◌, ℕ, zero, suc, Bool, true, false, List, slice_get, Option, Some, None}
use Rattle.bpf_insn.specs.declared.insn.Insn.{Insn}
use Rattle.bpf_insn.specs.declared.insn.Insn.TheVariants as insn
use Rattle.bpf_decode.specs.Flow.{size_of}
use Rattle.bpf_decode.specs.Program.{IsTarget}

-- after this instruction control may go elsewhere than to the next: a jump, a branch, a local call or an exit
abbrev pub turns : Insn → Bool
turns (insn.Jump x) = true
turns (insn.JumpLong x) = true
turns (insn.Branch c w d s x) = true
turns (insn.CallLocal x) = true
turns insn.Exit = true
turns _ = false

-- the slot holds such an instruction
abbrev pub turned_in : Option (Option Insn) → Bool
turned_in (Some (Some i)) = turns i
turned_in (Some None) = false
turned_in None = false

-- the preceding slot does
abbrev pub turned_before : List (Option Insn) → ℕ → Bool
turned_before slots zero = false
turned_before slots (suc k) = turned_in (slice_get slots k)

-- a block begins at slot k, if an instruction does: it is a target, or comes after an instruction that turns
abbrev pub IsFirst : List (Option Insn) → ℕ → Type 0
IsFirst slots k = IsTarget slots k ⊎ (turned_before slots k ≡ true)

-- the block of the instruction at slot k ends with it: it turns, or the next instruction is a target
abbrev pub IsLast : List (Option Insn) → ℕ → Insn → Type 0
IsLast slots k i = (turns i ≡ true) ⊎ IsTarget slots (k + size_of i)
