use Rattle.std.proofs.Common.{◌≡◌, ◌++◌, string_bytes, drop}
use Rattle.std.specs.List.{flat_map}
use Rattle.apd_driver.specs.Answers.{program_text}
use Rattle.apd_driver.specs.Lines.{line_of}
use Rattle.apd_driver.proofs.answers.lines.append_programs.Given as goal

-- what was appended, and what is left to append
abbrev pub invariant-loop-row : goal.invariant-loop-row
invariant-loop-row l =
    string_bytes l.text ++ flat_map (λ row. line_of l.line (program_text row)) (drop l.row-index l.rows)
    ≡ string_bytes l.initial.text ++ flat_map (λ row. line_of l.line (program_text row)) l.rows
