use Rattle.std.proofs.lemmas.Result.{err_from_is_err_and}
use Rattle.bpf_plain.proofs.Plainly.{plain_clear}
use Rattle.bpf_verifier.proofs.Admitting.{refusal_after, starved_after}
use Rattle.bpf_verifier.proofs.explanation.listed.Goals as goal

pub returns-in_err-exploration-clause-refused : goal.returns-in_err-exploration-clause-refused
returns-in_err-exploration-clause-refused c =
    let p = err_from_is_err_and c.from_residual.result c.from_residual.ensures.1 in
    rw (p.1, p.2) (starved_after c.args.program.now c.args.limit _ c.new.ensures.whole.first)

pub returns-in_err-_budget-clause-refused : goal.returns-in_err-_budget-clause-refused
returns-in_err-_budget-clause-refused c =
    let p = err_from_is_err_and c.from_residual-in_err-_budget.result c.from_residual-in_err-_budget.ensures.1 in
    rw (p.1, p.2)
    (refusal_after c.args.program.now c.args.limit _ _ (plain_clear c.args.program.now c.new.ensures.whole) c.in_err-_budget.ensures.begins c.in_err-_budget.ensures.clear)

pub returns-in-Some-clause-budget : goal.returns-in-Some-clause-budget
returns-in-Some-clause-budget c = (_, record { safe = c.in_ok-_budget.ensures.safe; small = c.in_ok-_budget.ensures.small; walk = c.in_ok-_budget.ensures.walk }, c.in_ok-_budget.ensures.earned)

pub returns-in-None-clause-budget : goal.returns-in-None-clause-budget
returns-in-None-clause-budget c = (_, record { safe = c.in_ok-_budget.ensures.safe; small = c.in_ok-_budget.ensures.small; walk = c.in_ok-_budget.ensures.walk }, c.in_ok-_budget.ensures.earned)
