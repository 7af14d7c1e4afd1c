-- A text and its code, line by line.
use Rattle.std.specs.Prelude.{ℕ, ◌+◌, ◌*◌, ◌==◌, nat_le, List, [], ◌∷◌, ◌++◌, length, if◌then◌else◌, Option, Some, None, Result, Ok, Err}
use Rattle.std.specs.List.{slice_split}
use Rattle.bpf_insn.specs.declared.fields.Fields.{Fields}
use Rattle.bpf_insn.specs.declared.insn.Insn.{Insn}
use Rattle.bpf_insn.specs.Slot.{slot_of}
use Rattle.bpf_insn.specs.Spelled.{fields_of, second_of}
use Rattle.bpf_line.specs.declared.fault.LineFault.{LineFault}
use Rattle.bpf_line.specs.Faults.{number_of}
use Rattle.bpf_line.specs.Lines.{line_said}
use Rattle.bpf_line.specs.Spellings.{text_of}

-- a text is cut into lines at its line feeds
abbrev pub lines_of : List ℕ → List (List ℕ)
lines_of text = slice_split (λ b. b == 10) text

-- the bytes of a second half, if there is one
abbrev pub second_bytes : Option Fields → List ℕ
second_bytes None = []
second_bytes (Some f) = slot_of f

-- the bytes of an instruction: its slot, and the second half of a wide load
abbrev pub bytes_of : Insn → List ℕ
bytes_of insn = slot_of (fields_of insn) ++ second_bytes (second_of insn)

-- code has at most 16384 slots; the line that would exceed them has fault 22
abbrev pub added : List ℕ → List ℕ → Result (List ℕ) ℕ
added code bytes =
    (if nat_le (length code + length bytes) (8 * 16384) then Ok (code ++ bytes) else Err 22)

-- the code after a line, by what the line says: blank lines add nothing
abbrev pub after_said : List ℕ → Result (Option Insn) LineFault → Result (List ℕ) ℕ
after_said code (Ok None) = Ok code
after_said code (Ok (Some insn)) = added code (bytes_of insn)
after_said code (Err fault) = Err (number_of fault)

-- the code with a line's instruction appended, or the line's fault
abbrev pub after_line : List ℕ → List ℕ → Result (List ℕ) ℕ
after_line code line = after_said code (line_said line)

-- continues with the code after a line, or returns the line's number with its fault
abbrev pub gone_on :
    ℕ → Result (List ℕ) ℕ → (List ℕ → Result (List ℕ) (ℕ × ℕ)) → Result (List ℕ) (ℕ × ℕ)
gone_on number (Err fault) rest = Err (number, fault)
gone_on number (Ok code) rest = rest code

-- The code of successive lines, or the number of the first faulty line, with its fault.
abbrev pub assembled : ℕ → List ℕ → List (List ℕ) → Result (List ℕ) (ℕ × ℕ)
assembled number code [] = Ok code
assembled number code (line ∷ lines) =
    gone_on number (after_line code line) (λ c. assembled (number + 1) c lines)

-- a slot, and a second if there is one
abbrev pub both_slots : List ℕ → Option (List ℕ) → List ℕ
both_slots first None = first
both_slots first (Some second) = first ++ second

-- the text of a program: a line for each instruction
abbrev pub disassembled : List (Option Insn) → List ℕ
disassembled [] = []
disassembled (None ∷ slots) = disassembled slots
disassembled (Some insn ∷ slots) = text_of insn ++ (10 ∷ disassembled slots)
