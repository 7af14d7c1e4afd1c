-- Code slot by slot, even if it isn't a program.
use Rattle.std.specs.Prelude.{◌≡◌, ◌≤◌, ◌<◌, ◌-◌, ◌/◌, ◌==◌, ◌&&◌, Bool, true, false, nat_le, ℕ, List, [], ◌∷◌, ◌++◌, length, take, drop, slice_index, codes, decimal, Option, Some, None, if◌then◌else◌}
use Rattle.hex.specs.Hex.{encode_lower}
use Rattle.bpf_insn.specs.declared.insn.Insn.{Insn}
use Rattle.bpf_insn.specs.Spelled.{Spelled}
use Rattle.bpf_line.specs.Spellings.{text_of}

-- the slot's number before a line, if `slots` is set; a space is 32
abbrev pub front : Bool → ℕ → List ℕ
front true slot = codes "  " ++ (decimal slot ++ 32 ∷ [])
front false slot = []

-- the line of an instruction; it ends with a line feed (10)
abbrev pub insn_line : Bool → ℕ → Insn → List ℕ
insn_line slots slot insn = front slots slot ++ (text_of insn ++ 10 ∷ [])

-- the line of bytes that aren't an instruction
abbrev pub slot_line : Bool → ℕ → List ℕ → List ℕ
slot_line slots slot bytes = front slots slot ++ (codes ".slot " ++ (encode_lower bytes ++ 10 ∷ []))

-- the slot after a slot, if it is whole
abbrev pub second_of : List ℕ → Option (List ℕ)
second_of others = (if nat_le 8 (length others) then Some (take 8 others) else None)

-- the code after the instruction that begins with a slot: one with the opcode 0x18 (24) has the next slot, too
abbrev pub after_insn : List ℕ → List ℕ → List ℕ
after_insn first others =
    (if (slice_index first 0 == 24) && nat_le 8 (length others) then drop 8 others else others)

-- the line of the first slot of code, and the code after it
pub data IsFirstLine (slots : Bool) (slot : ℕ) (code : List ℕ) : List ℕ → List ℕ → Type 0 where
  OfInsn : (insn : Insn) → 8 ≤ length code → Spelled (take 8 code) (second_of (drop 8 code)) insn →
      IsFirstLine slots slot code (insn_line slots slot insn) (after_insn (take 8 code) (drop 8 code))
  OfSlot : 8 ≤ length code →
      ((insn : Insn) → Spelled (take 8 code) (second_of (drop 8 code)) insn → ⊥) →
      IsFirstLine slots slot code (slot_line slots slot (take 8 code)) (drop 8 code)
  OfRest : length code < 8 → IsFirstLine slots slot code (slot_line slots slot code) []

-- the line of the first slot of code is appended to a text, and this code follows it
pub record Lists (slots : Bool) (slot : ℕ) (code rest old new : List ℕ) : Type 0 where
  pub line : List ℕ
  pub is : IsFirstLine slots slot code line rest
  pub grown : new ≡ old ++ line
  pub shorter : length rest < length code

-- the lines of the rest of code of `whole` bytes, slot by slot
pub data IsRawOf (slots : Bool) (whole : ℕ) : List ℕ → List ℕ → Type 0 where
  Nothing : IsRawOf slots whole [] []
  More : (code rest line text : List ℕ) → 0 < length code →
      IsFirstLine slots ((whole - length code) / 8) code line rest →
      IsRawOf slots whole rest text → IsRawOf slots whole code (line ++ text)

-- the lines of code, slot by slot
abbrev pub IsRaw : Bool → List ℕ → List ℕ → Type 0
IsRaw slots code text = IsRawOf slots (length code) code text
