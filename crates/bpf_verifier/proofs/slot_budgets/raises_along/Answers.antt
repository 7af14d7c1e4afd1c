use Rattle.std.proofs.Common.{rules, ◌≡◌, ℕ, List, [], ◌∷◌, length, refl, sym, ◌∙◌, arith}
use Rattle.bpf_verifier.specs.Budgets.{raised_along}
use Rattle.bpf_verifier.proofs.slot_budgets.raises_along.Goals as goal

pub loop-slot-preserved : goal.loop-slot-preserved
unfolding raised_along
loop-slot-preserved c = search rules

-- no slots change nothing
none : (budgets slots : List ℕ) (budget : ℕ) → length slots ≡ 0 → raised_along budgets slots budget ≡ budgets
unfolding raised_along
none budgets [] budget e = refl
none budgets (slot ∷ slots) budget e = absurd (omega (arith, e))

pub returns : goal.returns
returns c = record { is = sym (none c.loop-slot.budgets c.loop-slot.rest.now c.args.budget c.in_default.ensures.cases) ∙ c.loop-slot.invariant }
