use Rattle.std.proofs.Common.{Bool, subst}
use Rattle.std.specs.String.{string_bytes}
use Rattle.capture.specs.Walks.{packets_in}
use Rattle.apd_eval.specs.Compared.{IsComparison}
use Rattle.apd_program.specs.Admitting.{IsAdmission, Accepted}
use Rattle.apd_program.specs.declared.admission.Admission.{Admission}
use Rattle.apd_program.specs.Verifying.{within}
use Rattle.apd_program.proofs.eval.contrast.Goals as goal

pub returns-in_ok-found-in-Admitted-clause-verdicts : goal.returns-in_ok-found-in-Admitted-clause-verdicts
returns-in_ok-found-in-Admitted-clause-verdicts c =
    let found = c.in_ok-found-in-Admitted.found in
    let P : Admission → Type 0 = IsAdmission (within c.args.exam.terms.states c.args.exam.terms.work) c.args.exam.terms.hook c.args.code.now c.args.exam.shapes.now in
    let Q : Bool → Type 0 = λ json. IsComparison c.args.in_force c.in-Admitted.tried c.args.exam.replay.draw c.args.exam.replay.link.now (packets_in c.args.exam.replay.recording.bytes.now) json
    (string_bytes found.text) found.differs in
    Accepted c.in-Admitted.tried (subst P c.in-Admitted.is c.in_ok-admission.ensures.admission)
    (record { text = string_bytes found.text; differs = found.differs; shown = c.differences.ensures.shown; is = subst Q c.is_json.ensures.is c.in_ok-found-in-Admitted.ensures.is })
