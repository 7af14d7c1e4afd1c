-- The answers of `asm` for a text, and of `disasm` for a program.
use Rattle.std.specs.Prelude.{◌≡◌, ◌≢◌, ◌+◌, ◌==◌, Bool, true, false, nat_lt, ℕ, List, [], take, count_by, Vec, Result, Ok, Err, if◌then◌else◌, string_bytes, IsUtf8}
use Rattle.std.specs.Str.Lossy.{utf8_valid_len}
use Rattle.std.specs.declared.alloc.Global.{Global}
use Rattle.bpf_decode.specs.Program as decoded
use Rattle.apd_text.specs.Listing as listing
use Rattle.apd_text.specs.Raw.{IsRaw}
use Rattle.bpf_text.specs.Texts.{lines_of, assembled, disassembled}
use Rattle.bpf_text.specs.Refusals.{Refuses}
use Rattle.bpf_text.specs.declared.fault.AsmFault.{AsmFault}
use Rattle.bpf_text.specs.declared.fault.AsmFault.TheVariants as asm_fault
use Rattle.apd_program.specs.declared.answer.Answer.{Answer}
use Rattle.apd_program.specs.declared.answer.Answer.TheVariants.{Code, Instructions, LineFault}

-- the first faulty line of a text that breaks off in its last line, which therefore has fault 20
abbrev pub first_broken : ℕ → Result (List ℕ) (ℕ × ℕ) → ℕ × ℕ
first_broken last (Ok code) = (last, 20)
first_broken last (Err (line, number)) = (if nat_lt line last then (line, number) else (last, 20))

-- the same for the front of a text: it has one line more than line feeds
abbrev pub broken_off : List ℕ → ℕ × ℕ
broken_off front = first_broken (count_by (λ b. b == 10) front + 1) (assembled 1 [] (lines_of front))

-- the line fault of a text that breaks off after this front
abbrev pub BreaksOff : List ℕ → Answer → Type 0
BreaksOff front (LineFault (asm_fault.Line line number)) = broken_off front ≡ (line, number)
BreaksOff front _ = ⊥

-- the line fault of a text that isn't UTF-8: it breaks off before the first byte that isn't
abbrev pub broken : List ℕ → ℕ × ℕ
broken text = broken_off (take (utf8_valid_len text) text)

-- the code of the text, or its first faulty line
pub data IsAssembly (text : List ℕ) : Answer → Type 0 where
  Assembled : (code : Vec ℕ Global) → IsUtf8 text → assembled 1 [] (lines_of text) ≡ Ok code.items → IsAssembly text (Code code)
  NotAssembled : (e : AsmFault) → IsUtf8 text → e ≢ asm_fault.NoMemory → Refuses text e → IsAssembly text (LineFault e)
  Broken : (line number : ℕ) → (IsUtf8 text → ⊥) → broken text ≡ (line, number) → IsAssembly text (LineFault (asm_fault.Line line number))

-- `disasm`: the program's text
abbrev pub IsListing : decoded.Code → Answer → Type 0
IsListing p (Instructions text) = string_bytes text ≡ disassembled p.slots
IsListing p _ = ⊥

-- `disasm --slots`: its text with slots
abbrev pub IsSlotListing : decoded.Code → Answer → Type 0
IsSlotListing p (Instructions text) = listing.IsListing p.slots (string_bytes text)
IsSlotListing p _ = ⊥

-- `disasm --raw`: all slots of code
abbrev pub IsRawListing : Bool → List ℕ → Answer → Type 0
IsRawListing slots code (Instructions text) = IsRaw slots code (string_bytes text)
IsRawListing slots code _ = ⊥

-- a program's text, with the numbers of its slots or without
abbrev pub IsListingWith : Bool → decoded.Code → Answer → Type 0
IsListingWith true p a = IsSlotListing p a
IsListingWith false p a = IsListing p a
