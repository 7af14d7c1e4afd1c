-- Registers that are read on some path before they are written.
use Rattle.std.specs.Prelude.{◌≡◌, ℕ, List, [], ◌∷◌, length, Option}
use Rattle.bpf_insn.specs.declared.insn.Insn.{Insn}
use Rattle.bpf_decode.specs.Program.{Holds, Begins}
use Rattle.bpf_absnum.specs.Number.{Num}
use Rattle.bpf_absval.specs.declared.value.AbsVal.{AbsVal}
use Rattle.bpf_absval.specs.declared.value.AbsVal.TheVariants.{Number}
use Rattle.bpf_absstate.specs.View.{View}
use Rattle.bpf_absstate.specs.View.{register}
use Rattle.bpf_plain.specs.Walks.{Follows, Reads, Writes}

-- on the path from slot k over these slots, the last one reads the register, and none before it writes it
unfoldable pub IsNeeded : List (Option Insn) → ℕ → ℕ → List ℕ → Type 0
IsNeeded slots r k [] = (i : Insn) × Holds slots k i × Reads i r
IsNeeded slots r k (t ∷ rest) = (i : Insn) × Holds slots k i × (Writes i r → ⊥) × Follows slots k t × IsNeeded slots r t rest

abbrev pub IsNumber : AbsVal → Type 0
IsNumber v = (n : Num) × (v ≡ Number n)

-- the state is in the main function at an instruction, and each register needed there is known to be a number
pub record IsReady (slots : List (Option Insn)) (a : View) : Type 0 where
  pub begins : Begins slots a.pc
  pub size : length a.registers ≡ 11
  pub main : length a.frames ≡ 1
  pub knows : (r : ℕ) (rest : List ℕ) → IsNeeded slots r a.pc rest → IsNumber (register a r)
