use Rattle.apd_program.specs.Verifying.{Admitted, IsRun, within}
use Rattle.apd_program.proofs.Said.{IsVerdict-refused, IsTrace-of}
use Rattle.apd_program.proofs.verdicts.run.Goals as goal

pub returns-in_ok-text-in-Ok-clause-run : goal.returns-in_ok-text-in-Ok-clause-run
returns-in_ok-text-in-Ok-clause-run c =
    Admitted c.in-Ok.accepted.budget _ c.in-Ok.ensures.budget
    (IsTrace-of c.in-Ok.accepted _ _ _ _ _ _ c.in-Ok.ensures.code c.in-Ok.ensures.hook c.in_ok-text-in-Ok.ensures.is)

pub returns-in-Err-clause-run : goal.returns-in-Err-clause-run
returns-in-Err-clause-run c =
    IsVerdict-refused (within c.args.stimulus.terms.states c.args.stimulus.terms.work) (IsRun c.args.stimulus.terms.hook c.args.stimulus.frame.now c.args.stimulus.context.now c.args.stimulus.draw) _ _
    c.in-Err.refusal c.in-Err.ensures.refused c.refused.ensures.refusal
