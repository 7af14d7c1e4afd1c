use Rattle.std.proofs.Common.{◌≡◌, ◌++◌, drop}
use Rattle.apd_driver.specs.Json.{outs_json}
use Rattle.apd_driver.proofs.reports.json.append_outs_json.Given as goal

-- what was appended, and what is left to append
abbrev pub invariant-loop-out : goal.invariant-loop-out
invariant-loop-out l =
    l.text.items ++ outs_json l.line (drop l.out-index l.outs) ≡ l.initial.text.items ++ outs_json l.line l.outs
