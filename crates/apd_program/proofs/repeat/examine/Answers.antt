use Rattle.std.proofs.Common.{subst}
use Rattle.std.specs.String.{string_bytes}
use Rattle.apd_program.specs.Admitting.{IsAdmission, Accepted}
use Rattle.apd_program.specs.declared.admission.Admission.{Admission}
use Rattle.apd_program.specs.Verifying.{within}
use Rattle.apd_program.proofs.repeat.examine.Goals as goal

pub returns-in_ok-text-in-Admitted-clause-verdicts : goal.returns-in_ok-text-in-Admitted-clause-verdicts
returns-in_ok-text-in-Admitted-clause-verdicts g c =
    let P : Admission → Type 0 = IsAdmission (within c.args.exam.terms.states c.args.exam.terms.work) c.args.exam.terms.hook c.args.code.now c.args.exam.shapes.now in
    Accepted c.in-Admitted.accepted (subst P c.in-Admitted.is c.in_ok-admission.ensures.admission)
    (record { text = string_bytes c.in_ok-text-in-Admitted.text; shown = c.verdicts.ensures.shown; is = rw c.is_json.ensures.is at c.in_ok-text-in-Admitted.ensures.is })
