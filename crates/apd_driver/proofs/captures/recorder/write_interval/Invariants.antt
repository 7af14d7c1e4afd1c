use Rattle.std.proofs.Common.{◌++◌, drop}
use Rattle.capture.specs.Writing.{blocks_of}
use Rattle.apd_driver.specs.Capturing.{interval_packets}
use Rattle.apd_driver.specs.Moving.{MovesOn}
use Rattle.apd_driver.proofs.captures.recorder.write_interval.Given as goal

-- what was written, and what is left to write: the blocks, and the remaining commands with the remaining reports
abbrev pub invariant-loop-numbered : goal.invariant-loop-numbered
invariant-loop-numbered g l =
    MovesOn (g.T.Write.contents l.initial.tape) (g.T.Write.contents l.tape) (blocks_of (interval_packets l.time l.commands l.reports))
    (l.blocks.items ++ blocks_of (interval_packets l.now (drop l.numbered-index l.commands) l.rest))
