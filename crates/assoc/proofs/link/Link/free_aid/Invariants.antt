use Rattle.std.proofs.Common.{ℕ, ◌<◌}
use Rattle.assoc.specs.Sound.{IsTaken}
use Rattle.assoc.proofs.link.Link.free_aid.Given as goal

abbrev pub invariant-loop-place : goal.invariant-loop-place
invariant-loop-place l = (k : ℕ) → k < l.place → IsTaken l.self-inside.shard l.self-inside.holders l.station k
