use Rattle.std.proofs.Common.{◌≡◌, length}
use Rattle.bpf_verifier.specs.Budgets.{raised_along}
use Rattle.bpf_verifier.proofs.slot_budgets.raises_along.Given as goal

abbrev pub invariant-loop-slot : goal.invariant-loop-slot
invariant-loop-slot l = raised_along l.budgets l.rest l.budget ≡ raised_along l.initial.budgets l.slots l.budget

abbrev pub decreases-loop-slot : goal.decreases-loop-slot
decreases-loop-slot l = length l.rest
