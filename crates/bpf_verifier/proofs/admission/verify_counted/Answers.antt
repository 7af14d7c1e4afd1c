use Rattle.std.proofs.Common.{sym, subst, arith}
use Rattle.std.proofs.lemmas.Result.{err_from_is_err_and}
use Rattle.bpf_verifier.specs.Admission.{IsSafeBudget}
use Rattle.bpf_plain.proofs.Plainly.{plain_clear}
use Rattle.bpf_verifier.proofs.Admitting.{refusal_after, starved_after}
use Rattle.bpf_verifier.proofs.admission.verify_counted.Goals as goal

pub returns-in_err-budget-clause-refused : goal.returns-in_err-budget-clause-refused
returns-in_err-budget-clause-refused c =
    let p = err_from_is_err_and c.from_residual.result c.from_residual.ensures.1 in
    rw (p.1, p.2)
    (refusal_after c.args.program c.args.limit _ _ (plain_clear c.args.program c.find_budget-found.ensures.whole) c.in_err-budget.ensures.begins c.in_err-budget.ensures.clear)

pub returns-in_err-accepted-clause-refused : goal.returns-in_err-accepted-clause-refused
returns-in_err-accepted-clause-refused c =
    let p = err_from_is_err_and c.from_residual-in_err-accepted.result c.from_residual-in_err-accepted.ensures.1 in
    rw (p.1, p.2) (starved_after c.args.program c.args.limit _ c.find_budget-found.ensures.whole.first)

pub returns-clause-budget : goal.returns-clause-budget
returns-clause-budget c =
    let found = c.in_ok-budget.ensures in
    subst (IsSafeBudget c.args.program c.args.limit) (sym c.in_ok-accepted.ensures.budget) (record { safe = found.safe; small = found.small; walk = found.walk })

pub returns-clause-earned : goal.returns-clause-earned
returns-clause-earned c = omega (arith, c.in_ok-accepted.ensures.budget, c.in_ok-budget.ensures.earned)
