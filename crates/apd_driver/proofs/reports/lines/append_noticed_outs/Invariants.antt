use Rattle.std.proofs.Common.{◌≡◌, ◌++◌, drop}
use Rattle.apd_driver.specs.Lines.{noticed_outs}
use Rattle.apd_driver.proofs.reports.lines.append_noticed_outs.Given as goal

-- what was appended, and what is left to append
abbrev pub invariant-loop-out : goal.invariant-loop-out
invariant-loop-out l =
    l.text.items ++ noticed_outs l.line (drop l.out-index l.outs) ≡ l.initial.text.items ++ noticed_outs l.line l.outs
