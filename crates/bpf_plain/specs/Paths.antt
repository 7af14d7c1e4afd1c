-- Paths from a slot to an EXIT.
use Rattle.std.specs.Prelude.{ℕ, ◌+◌, ◌≤◌, List, [], ◌∷◌, length, Option}
use Rattle.bpf_insn.specs.declared.insn.Insn.{Insn}
use Rattle.bpf_insn.specs.declared.insn.Insn.TheVariants as insn
use Rattle.bpf_decode.specs.Program.{Holds}
use Rattle.bpf_plain.specs.Walks.{Follows}

-- these are the slots after k on a path from k to an EXIT
unfoldable pub IsPath : List (Option Insn) → ℕ → List ℕ → Type 0
IsPath slots k [] = Holds slots k insn.Exit
IsPath slots k (t ∷ rest) = Follows slots k t × IsPath slots t rest

-- some path from k to an EXIT has at least n instructions
pub record Reaches (slots : List (Option Insn)) (k n : ℕ) : Type 0 where
  pub rest : List ℕ
  pub path : IsPath slots k rest
  pub long : n ≤ length rest + 1
