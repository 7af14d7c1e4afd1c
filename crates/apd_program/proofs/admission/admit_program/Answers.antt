use Rattle.std.proofs.Common.{refl}
use Rattle.apd_program.specs.Verifying.{within}
use Rattle.apd_program.proofs.Admits.{admitted_code}
use Rattle.apd_program.proofs.admission.admit_program.Goals as goal

pub returns-in-Ok-clause-admission : goal.returns-in-Ok-clause-admission
returns-in-Ok-clause-admission c =
    admitted_code (within c.args.terms.states c.args.terms.work) c.args.terms.hook c.args.code.now c.args.program.shapes c.args.program c.in-Ok.accepted
    c.requires.spelled refl c.in-Ok.ensures.code c.in-Ok.ensures.hook c.in-Ok.ensures.budget
