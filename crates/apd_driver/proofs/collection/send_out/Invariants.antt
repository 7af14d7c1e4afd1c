use Rattle.std.proofs.Common.{◌≡◌, ◌+◌, length, vec_len}
use Rattle.apd_driver.proofs.collection.send_out.Given as goal

-- there is a worker for each remaining desk
abbrev pub invariant-loop-desk : goal.invariant-loop-desk
invariant-loop-desk g l = vec_len l.workers + l.desk-index ≡ length l.setting.desks.now
