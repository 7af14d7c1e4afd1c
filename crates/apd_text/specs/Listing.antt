-- A program's instructions with their slots.
use Rattle.std.specs.Prelude.{◌≡◌, IsTrue, ◌↔◌, Bool, true, false, ℕ, zero, suc, List, [], ◌∷◌, ◌++◌, length, codes, decimal, Option, Some, None, slice_get}
use Rattle.bpf_insn.specs.declared.insn.Insn.{Insn}
use Rattle.bpf_line.specs.Spellings.{text_of}
use Rattle.bpf_decode.specs.Program.{IsTarget}

-- the mark of a slot that is a target, and that of another
abbrev pub mark_of : Bool → List ℕ
mark_of true = codes "> "
mark_of false = codes "  "

-- the mark, the slot, a space (32), the instruction's text and a line feed (10)
abbrev pub listing_line : Bool → ℕ → Insn → List ℕ
listing_line target slot insn = mark_of target ++ (decimal slot ++ (32 ∷ (text_of insn ++ 10 ∷ [])))

-- the line of a slot that begins an instruction
pub record IsLine
    (slots : List (Option Insn)) (slot : ℕ) (insn : Insn) (line : List ℕ) : Type 0 where
  pub target : Bool
  pub told : IsTrue target ↔ IsTarget slots slot
  pub is : line ≡ listing_line target slot insn

-- the line of a slot; empty if it begins no instruction
abbrev pub IsLineAt : List (Option Insn) → ℕ → Option (Option Insn) → List ℕ → Type 0
IsLineAt slots slot (Some (Some insn)) line = IsLine slots slot insn line
IsLineAt slots slot (Some None) line = line ≡ []
IsLineAt slots slot None line = line ≡ []

-- the line of a slot is appended to a text
pub record Grows (slots : List (Option Insn)) (slot : ℕ) (old new : List ℕ) : Type 0 where
  pub line : List ℕ
  pub is : IsLineAt slots slot (slice_get slots slot) line
  pub grown : new ≡ old ++ line

-- the lines of the first n slots
pub data IsListed (slots : List (Option Insn)) : ℕ → List ℕ → Type 0 where
  Nothing : IsListed slots 0 []
  More : (n : ℕ) (text line : List ℕ) → IsListed slots n text →
      IsLineAt slots n (slice_get slots n) line → IsListed slots (suc n) (text ++ line)

-- the lines of all slots
abbrev pub IsListing : List (Option Insn) → List ℕ → Type 0
IsListing slots text = IsListed slots (length slots) text
