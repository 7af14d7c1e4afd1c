use Rattle.std.proofs.Common.{◌≡◌, vec_len}
use Rattle.apd_driver.proofs.script.new_desks.Given as goal

abbrev pub invariant-loop : goal.invariant-loop
invariant-loop g l = vec_len l.desks ≡ l.counter
