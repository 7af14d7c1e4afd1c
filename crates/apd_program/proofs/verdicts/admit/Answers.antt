use Rattle.std.proofs.Common.{sym, subst}
use Rattle.std.proofs.lemmas.Result.{err_from_is_err_and}
use Rattle.bpf_verifier.specs.Admission.{IsSafeBudget, IsRefusalWithin}
use Rattle.bpf_verifier.specs.declared.limit.Limits.{Limits}
use Rattle.bpf_verifier.proofs.Admitting.{starved_within}
use Rattle.apd_program.specs.Verifying.{within}
use Rattle.apd_program.proofs.verdicts.admit.Goals as goal

pub returns-in_err-explanation-clause-refused : goal.returns-in_err-explanation-clause-refused
returns-in_err-explanation-clause-refused c =
    let p = err_from_is_err_and c.from_residual.result c.from_residual.ensures.1 in
    rw (p.1, p.2) (starved_within c.args.program (within c.args.terms.states c.args.terms.work) c.whole.ensures.is.first)

pub returns-in_err-accepted-in-Ok-clause-refused : goal.returns-in_err-accepted-in-Ok-clause-refused
returns-in_err-accepted-in-Ok-clause-refused c =
    let p = err_from_is_err_and c.from_residual-in_err-accepted-in-Ok.result c.from_residual-in_err-accepted-in-Ok.ensures.1 in
    rw (p.1, p.2) (starved_within c.args.program (within c.args.terms.states c.args.terms.work) c.whole.ensures.is.first)

pub returns-in_ok-accepted-in-Ok-clause-budget : goal.returns-in_ok-accepted-in-Ok-clause-budget
returns-in_ok-accepted-in-Ok-clause-budget c =
    let OfLimits : Limits → Type 0 = λ l. IsSafeBudget c.args.program l.states c.in_ok-accepted-in-Ok.accepted.budget in
    subst OfLimits c.limits_of-limits.ensures.is
    (subst (IsSafeBudget c.args.program c.limits_of-limits.result.states) (sym c.in_ok-accepted-in-Ok.ensures.budget) (rw c.in-Ok.is at c.in_ok-explanation.ensures.budget))

pub returns-in-Err-clause-refused : goal.returns-in-Err-clause-refused
returns-in-Err-clause-refused c =
    subst (λ l. IsRefusalWithin c.args.program l c.in-Err.refusal) c.limits_of-limits.ensures.is (rw c.in-Err.is at c.in_ok-explanation.ensures.refused)
