use Rattle.std.proofs.Common.{◌≡◌, ◌++◌, length}
use Rattle.hex.specs.Hex.{encode_lower}
use Rattle.apd_driver.proofs.reports.words.append_digits.Given as goal

-- what was appended, and what is left to append
abbrev pub invariant-loop-rest : goal.invariant-loop-rest
invariant-loop-rest l =
    l.text.items ++ encode_lower l.rest ≡ l.initial.text.items ++ encode_lower l.bytes

abbrev pub decreases-loop-rest : goal.decreases-loop-rest
decreases-loop-rest l = length l.rest
