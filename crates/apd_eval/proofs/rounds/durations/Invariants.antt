-- There is a duration for each round so far.
use Rattle.std.proofs.Common.{◌≡◌, length}
use Rattle.apd_eval.proofs.rounds.durations.Given as goal

abbrev pub invariant-loop : goal.invariant-loop
invariant-loop g l = length l.durations.items ≡ l.counter
