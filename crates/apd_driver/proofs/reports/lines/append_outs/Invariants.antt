use Rattle.std.proofs.Common.{◌≡◌, ◌++◌, drop}
use Rattle.apd_driver.specs.Lines.{outs_text}
use Rattle.apd_driver.proofs.reports.lines.append_outs.Given as goal

-- what was appended, and what is left to append
abbrev pub invariant-loop-out : goal.invariant-loop-out
invariant-loop-out l =
    l.text.items ++ outs_text l.line (drop l.out-index l.outs) ≡ l.initial.text.items ++ outs_text l.line l.outs
