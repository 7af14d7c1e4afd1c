-- Walks through a program, and plain programs.
use Rattle.std.specs.Prelude.{◌≡◌, ℕ, ◌+◌, ◌<◌, ◌≤◌, ◌⊎◌, ℤ, pos, ◌≤ℤ◌, Bool, true, false, List, length, slice_get, Option, Some, count_by}
use Rattle.bpf_insn.specs.declared.insn.AluOp.TheVariants as alu
use Rattle.bpf_insn.specs.declared.insn.AtomicOp.{AtomicOp}
use Rattle.bpf_insn.specs.declared.insn.AtomicOp.TheVariants as atomic
use Rattle.bpf_insn.specs.declared.insn.Insn.{Insn}
use Rattle.bpf_insn.specs.declared.insn.Insn.TheVariants as insn
use Rattle.bpf_insn.specs.declared.insn.Source.{Source}
use Rattle.bpf_insn.specs.declared.insn.Source.TheVariants as source
use Rattle.bpf_insn.specs.declared.insn.Wide.TheVariants as wide
use Rattle.bpf_decode.specs.Flow.{jump_of, IsJump, size_of, ends, written}
use Rattle.bpf_decode.specs.Program.{Holds}

-- Control may go from slot k to slot t, ignoring values: to the next instruction, or to a jump's target (RFC 9669
-- section 4.3).
pub data Follows (slots : List (Option Insn)) (k t : ℕ) : Type 0 where
  Falls : (i : Insn) → Holds slots k i → ends i ≡ false → t ≡ k + size_of i → Follows slots k t
  Jumps : (i : Insn) (x : ℤ) → Holds slots k i → jump_of i ≡ Some x →
      IsJump k x t → Follows slots k t

-- A walk: a path from slot 0 to an EXIT, as the list of its slots. Its length counts instructions.
pub record IsWalk (slots : List (Option Insn)) (walk : List ℕ) : Type 0 where
  pub starts : slice_get walk 0 ≡ Some 0
  pub follows : (n from to : ℕ) → slice_get walk n ≡ Some from →
      slice_get walk (n + 1) ≡ Some to → Follows slots from to
  pub exits :
      (n last : ℕ) → length walk ≡ n + 1 → slice_get walk n ≡ Some last → Holds slots last insn.Exit

-- some walk has at least n instructions
pub record HasWalk (slots : List (Option Insn)) (n : ℕ) : Type 0 where
  pub walk : List ℕ
  pub is_walk : IsWalk slots walk
  pub long : n ≤ length walk

-- the operand is this register
abbrev pub ReadsSource : Source → ℕ → Type 0
ReadsSource (source.Imm n) r = ⊥
ReadsSource (source.Reg s) r = r ≡ s

-- CMPXCHG compares with R0 (RFC 9669 section 5.3)
abbrev pub ReadsAtomic : AtomicOp → ℕ → Type 0
ReadsAtomic atomic.Cmpxchg r = r ≡ 0
ReadsAtomic op r = ⊥

-- lookup reads a map in R1 and an index in R2, note a number in R1
abbrev pub ReadsHelper : ℤ → ℕ → Type 0
ReadsHelper helper r = (helper ≡ pos 1) × ((r ≡ 1) ⊎ (r ≡ 2)) ⊎ (helper ≡ pos 5) × (r ≡ 1)

-- which registers an instruction reads (RFC 9669 sections 4 and 5); EXIT reads R0, and a local call only passes
-- registers on
abbrev pub Reads : Insn → ℕ → Type 0
Reads (insn.Alu alu.Mov w d s) r = ReadsSource s r
Reads (insn.Alu op w d s) r = (r ≡ d) ⊎ ReadsSource s r
Reads (insn.MovSx from w d s) r = r ≡ s
Reads (insn.Neg w d) r = r ≡ d
Reads (insn.End order width d) r = r ≡ d
Reads (insn.Jump x) r = ⊥
Reads (insn.JumpLong x) r = ⊥
Reads (insn.Branch compare w d s x) r = (r ≡ d) ⊎ ReadsSource s r
Reads (insn.Call helper) r = ReadsHelper helper r
Reads (insn.CallLocal x) r = ⊥
Reads insn.Exit r = r ≡ 0
Reads (insn.Load z signed d s x) r = r ≡ s
Reads (insn.Store z d x s) r = (r ≡ d) ⊎ ReadsSource s r
Reads (insn.Atomic op w d s x) r = (r ≡ d) ⊎ (r ≡ s) ⊎ ReadsAtomic op r
Reads (insn.LoadWide d v) r = ⊥

-- which registers it writes; a call writes R0, and CMPXCHG puts the old number there
abbrev pub Writes : Insn → ℕ → Type 0
Writes (insn.Call helper) r = r ≡ 0
Writes (insn.Atomic atomic.Cmpxchg w d s x) r = r ≡ 0
Writes i r = written i ≡ Some r

-- the instruction at index n of a walk reads the register
pub record ReadsAt (slots : List (Option Insn)) (walk : List ℕ) (n r : ℕ) : Type 0 where
  pub slot : ℕ
  pub insn : Insn
  pub place : slice_get walk n ≡ Some slot
  pub stands : Holds slots slot insn
  pub reads : Reads insn r

-- the instruction at index n of a walk writes the register
pub record WritesAt (slots : List (Option Insn)) (walk : List ℕ) (n r : ℕ) : Type 0 where
  pub slot : ℕ
  pub insn : Insn
  pub place : slice_get walk n ≡ Some slot
  pub stands : Holds slots slot insn
  pub writes : Writes insn r

-- jumps go forward; wide loads are of numbers
abbrev pub IsPlainInsn : Insn → Type 0
IsPlainInsn (insn.Alu op w d s) = Unit {0}
IsPlainInsn (insn.MovSx from w d s) = Unit {0}
IsPlainInsn (insn.Neg w d) = Unit {0}
IsPlainInsn (insn.End order width d) = Unit {0}
IsPlainInsn (insn.Jump x) = pos 0 ≤ℤ x
IsPlainInsn (insn.JumpLong x) = pos 0 ≤ℤ x
IsPlainInsn (insn.Branch compare w d s x) = pos 0 ≤ℤ x
IsPlainInsn insn.Exit = Unit {0}
IsPlainInsn (insn.LoadWide d (wide.Number n)) = Unit {0}
IsPlainInsn _ = ⊥

-- a conditional jump
abbrev pub is_conditional : Option Insn → Bool
is_conditional (Some (insn.Branch compare w d s x)) = true
is_conditional o = false

-- A plain program, given that it is well formed: arithmetic, wide loads of numbers, forward jumps, at most 8 of them
-- conditional, and EXIT; on every walk each register that is read was written earlier on that walk.
pub record IsPlain (slots : List (Option Insn)) : Type 0 where
  pub operations : (k : ℕ) (i : Insn) → Holds slots k i → IsPlainInsn i
  pub few : count_by is_conditional slots ≤ 8
  pub written : (walk : List ℕ) (n r : ℕ) → IsWalk slots walk → ReadsAt slots walk n r →
      (m : ℕ) × (m < n) × WritesAt slots walk m r
