use Rattle.std.proofs.Common.{subst}
use Rattle.std.proofs.lemmas.Result.{IfOk-weaker}
use Rattle.apd_program.specs.Admitting.{IsAdmission, Accepted}
use Rattle.apd_program.specs.declared.admission.Admission.{Admission}
use Rattle.apd_program.specs.Verifying.{within}
use Rattle.apd_program.proofs.eval.examine_against.Goals as goal

pub returns-in-Admitted-clause-verdicts : goal.returns-in-Admitted-clause-verdicts
returns-in-Admitted-clause-verdicts c =
    let P : Admission → Type 0 = IsAdmission (within c.args.exam.terms.states c.args.exam.terms.work) c.args.exam.terms.hook c.args.in_force.now c.args.exam.shapes.now in
    let admitted = subst P c.in-Admitted.is c.in_ok-admission.ensures.admission in
    IfOk-weaker c.contrast.result _ _ (λ a h. Accepted c.in-Admitted.in_force admitted h) c.contrast.ensures.verdicts
