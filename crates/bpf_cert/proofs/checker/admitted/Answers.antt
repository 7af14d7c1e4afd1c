use Rattle.std.proofs.Common.{ap, ◌∙◌}
use Rattle.std.proofs.lemmas.Result.{err_from_is_err_and}
use Rattle.bpf_machine.specs.Verified.{Verified}
use Rattle.bpf_cert.proofs.Limits.{answers_admits}
use Rattle.bpf_cert.proofs.checker.admitted.Goals as goal

pub returns-in_err-budget-clause-only : goal.returns-in_err-budget-clause-only
returns-in_err-budget-clause-only g c = λ b v.
    let p = err_from_is_err_and c.from_residual.result c.from_residual.ensures.1 in
    rw (p.1, p.2) (answers_admits _ c.in_err-budget.field-0.0 b (c.in_err-budget.ensures.only b v))

pub returns-clause-only : goal.returns-clause-only
returns-clause-only g c = λ b v. ap (λ (a : Verified). a.budget) c.in_ok-accepted.ensures.is ∙ c.in_ok-budget.ensures.only b v
