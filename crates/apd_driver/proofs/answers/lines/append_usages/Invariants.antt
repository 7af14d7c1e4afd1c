use Rattle.std.proofs.Common.{◌≡◌, ◌++◌, string_bytes, drop, codes}
use Rattle.std.specs.List.{flat_map}
use Rattle.apd_driver.specs.Lines.{line_of}
use Rattle.apd_driver.specs.Words.{then}
use Rattle.apd_driver.proofs.answers.lines.append_usages.Given as goal

-- what was appended, and what is left to append
abbrev pub invariant-loop-usage : goal.invariant-loop-usage
invariant-loop-usage l =
    string_bytes l.text ++ flat_map (λ u. line_of l.line (then (codes "help") (string_bytes u))) (drop l.usage-index l.usages)
    ≡ string_bytes l.initial.text ++ flat_map (λ u. line_of l.line (then (codes "help") (string_bytes u))) l.usages
