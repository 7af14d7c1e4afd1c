use Rattle.std.proofs.Common.{◌≡◌, drop}
use Rattle.apd_driver.specs.Capturing.{time_after_all}
use Rattle.apd_driver.proofs.captures.packets.time_after_all.Given as goal

-- the time after the commands that are left
abbrev pub invariant-loop-numbered : goal.invariant-loop-numbered
invariant-loop-numbered l = time_after_all l.now (drop l.numbered-index l.commands) ≡ time_after_all l.time l.commands
