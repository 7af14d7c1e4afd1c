use Rattle.std.proofs.Common.{◌≡◌, ◌-◌, ◌^◌, min, take}
use Rattle.ap_agreements.specs.Tables.{late_held}
use Rattle.ap_agreements.proofs.agreements.Agreements.late_held.Given as goal

abbrev pub invariant-loop-entry : goal.invariant-loop-entry
invariant-loop-entry l = l.held ≡ min (late_held l.clock (take l.entry-index l.entry-items)) (2 ^ 64 - 1)
