use Rattle.std.proofs.Common.{take}
use Rattle.apd_cases.specs.Said.{lines_said}
use Rattle.apd_trials.specs.Blamed.{IsBlamed}
use Rattle.apd_trials.proofs.blame.blamed_line.Given as goal

abbrev pub invariant-loop-numbered : goal.invariant-loop-numbered
invariant-loop-numbered l = IsBlamed (lines_said (take l.numbered-index l.lines)) l.at l.trouble l.blamed
