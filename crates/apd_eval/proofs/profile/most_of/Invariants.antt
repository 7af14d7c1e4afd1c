-- The greatest of the remaining counts, from that of those so far on, is that of all.
use Rattle.std.proofs.Common.{◌≡◌, drop, max}
use Rattle.std.specs.Prelude.{fold}
use Rattle.apd_eval.specs.Profile.{most_of}
use Rattle.apd_eval.proofs.profile.most_of.Given as goal

abbrev pub invariant-loop-count : goal.invariant-loop-count
invariant-loop-count l = fold (λ most count. max count most) l.most (drop l.count-index l.counts) ≡ most_of l.counts
