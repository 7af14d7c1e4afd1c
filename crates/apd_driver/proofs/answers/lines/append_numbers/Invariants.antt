use Rattle.std.proofs.Common.{◌≡◌, ◌++◌, string_bytes, drop}
use Rattle.apd_driver.specs.Answers.{numbers_text}
use Rattle.apd_driver.proofs.answers.lines.append_numbers.Given as goal

-- what was appended, and what is left to append
abbrev pub invariant-loop-number : goal.invariant-loop-number
invariant-loop-number l =
    string_bytes l.text ++ numbers_text (drop l.number-index l.numbers) ≡ string_bytes l.initial.text ++ numbers_text l.numbers
