use Rattle.std.proofs.Common.{refl}
use Rattle.apd_program.specs.Verifying.{Admitted, IsBudget, within}
use Rattle.apd_program.proofs.Said.{IsVerdict-refused}
use Rattle.apd_program.proofs.verdicts.admitted.Goals as goal

pub returns-in-Ok-clause-verdict : goal.returns-in-Ok-clause-verdict
returns-in-Ok-clause-verdict c = Admitted c.budget.result _ (rw c.budget.ensures.is c.in-Ok.ensures.budget) refl

pub returns-in-Err-clause-verdict : goal.returns-in-Err-clause-verdict
returns-in-Err-clause-verdict c =
    IsVerdict-refused (within c.args.terms.states c.args.terms.work) IsBudget _ _ c.in-Err.refusal c.in-Err.ensures.refused c.refused.ensures.refusal
