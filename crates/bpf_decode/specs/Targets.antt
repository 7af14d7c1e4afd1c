-- The targets that one instruction makes.
use Rattle.std.specs.Prelude.{◌≡◌, ◌⊎◌, ℕ, ◌+◌, ℤ, List, slice_get, Option, Some, None}
use Rattle.bpf_insn.specs.declared.insn.Insn.{Insn}
use Rattle.bpf_insn.specs.declared.insn.Insn.TheVariants as insn
use Rattle.bpf_decode.specs.Flow.{jump_of, IsJump}

-- a jump at slot k, if there is one, leads to slot t
abbrev pub JumpsTo : ℕ → Option ℤ → ℕ → Type 0
JumpsTo k None t = ⊥
JumpsTo k (Some x) t = IsJump k x t

-- a local function called at slot k returns to slot t
abbrev pub ReturnsTo : ℕ → Insn → ℕ → Type 0
ReturnsTo k (insn.CallLocal x) t = t ≡ k + 1
ReturnsTo k _ t = ⊥

-- the instruction at slot k, if any, makes slot t a target
abbrev pub MakesTarget : ℕ → Option Insn → ℕ → Type 0
MakesTarget k None t = ⊥
MakesTarget k (Some i) t = JumpsTo k (jump_of i) t ⊎ ReturnsTo k i t

-- some slot's instruction makes slot t a target
pub data IsMade (slots : List (Option Insn)) (t : ℕ) : Type 0 where
  Made : (k : ℕ) (o : Option Insn) → slice_get slots k ≡ Some o → MakesTarget k o t → IsMade slots t
