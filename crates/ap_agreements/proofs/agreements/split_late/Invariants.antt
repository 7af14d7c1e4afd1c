use Rattle.std.proofs.Common.{◌≡◌, ◌-◌, vec_len, vec_capacity}
use Rattle.ap_agreements.specs.Tables.{is_late}
use Rattle.ap_agreements.proofs.Halves.{Halfway}
use Rattle.ap_agreements.proofs.agreements.split_late.Given as goal

abbrev pub invariant-loop-at : goal.invariant-loop-at
invariant-loop-at l = Halfway (λ k. is_late l.clock k.using) l.fn.entries.items l.entries.items l.ended.items l.at × (vec_capacity l.ended ≡ vec_capacity l.fn.ended)

abbrev pub decreases-loop-at : goal.decreases-loop-at
decreases-loop-at l = vec_len l.entries - l.at
