-- The text of a program assembles to its code.
use Rattle.std.specs.Prelude.{◌≡◌, ◌≤◌, ◌+◌, ◌*◌, ℕ, List, [], ◌∷◌, ◌++◌, length, Option, Some, None, Ok, refl, nat_le, true}
use Rattle.std.proofs.Common.{rules, tests, arith, sym, ◌∙◌, ap, append_assoc}
use Rattle.std.proofs.lemmas.Bool.Decides.{nat_tests}
use Rattle.std.proofs.lemmas.List.{append-nil, length-append}
use Rattle.bpf_insn.specs.declared.insn.Insn.{Insn}
use Rattle.bpf_insn.specs.Spelled.{IsInsn}
use Rattle.bpf_line.specs.Lines.{line_said}
use Rattle.bpf_line.specs.Spellings.{text_of}
use Rattle.bpf_line.proofs.Again.{line_said-text, text_of-one_line}
use Rattle.bpf_line.proofs.Cuts.{words-nil}
use Rattle.bpf_text.specs.Texts.{lines_of, bytes_of, assembled, disassembled}
use Rattle.bpf_text.proofs.Cuts.{lines_of-feed}

-- the concatenated bytes of the instructions
abbrev pub code_of : List (Option Insn) → List ℕ
code_of [] = []
code_of (None ∷ slots) = code_of slots
code_of (Some i ∷ slots) = bytes_of i ++ code_of slots

abbrev pub AreInsns : List (Option Insn) → Type 0
AreInsns [] = Unit {0}
AreInsns (None ∷ slots) = AreInsns slots
AreInsns (Some i ∷ slots) = IsInsn i × AreInsns slots

line_said-nil : line_said [] ≡ Ok None
line_said-nil = rw words-nil refl

fits : (n : ℕ) → n ≤ 8 * 16384 → nat_le n (8 * 16384) ≡ true
fits n h = search (rules, tests, nat_tests)

pub assembled-again : (number : ℕ) (code : List ℕ) (slots : List (Option Insn)) → AreInsns slots → length code + length (code_of slots) ≤ 8 * 16384
    → assembled number code (lines_of (disassembled slots)) ≡ Ok (code ++ code_of slots)
assembled-again number code [] are short = rw line_said-nil (ap Ok (sym (append-nil code)))
assembled-again number code (None ∷ slots) are short = assembled-again number code slots are short
assembled-again number code (Some i ∷ slots) are short =
    let cut = lines_of-feed (text_of i) (disassembled slots) (text_of-one_line i are.0) in
    let sum = length-append (bytes_of i) (code_of slots) in
    let room = fits (length code + length (bytes_of i)) (omega (arith, short, sum)) in
    let longer = length-append code (bytes_of i) in
    rw (cut, line_said-text i are.0, room)
    (assembled-again (number + 1) (code ++ bytes_of i) slots are.1 (omega (arith, short, sum, longer)) ∙ ap Ok (append_assoc code (bytes_of i) (code_of slots)))
