use Rattle.std.proofs.Common.{◌≡◌, ◌++◌, string_bytes, drop}
use Rattle.std.specs.List.{flat_map}
use Rattle.apd_driver.specs.Answers.{entry_words}
use Rattle.apd_driver.specs.Lines.{line_of}
use Rattle.apd_driver.proofs.answers.lines.append_entries.Given as goal

-- what was appended, and what is left to append
abbrev pub invariant-loop-entry : goal.invariant-loop-entry
invariant-loop-entry l =
    string_bytes l.text ++ flat_map (λ entry. line_of l.line (entry_words entry)) (drop l.entry-index l.entries)
    ≡ string_bytes l.initial.text ++ flat_map (λ entry. line_of l.line (entry_words entry)) l.entries
