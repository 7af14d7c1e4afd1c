use Rattle.apd_program.specs.Verifying.{IsVerified}
use Rattle.apd_program.proofs.KeptCode.{IsOfCode-loaded}
use Rattle.apd_program.proofs.program.verify.Goals as goal

pub returns-clause-verdict : goal.returns-clause-verdict
returns-clause-verdict g c =
    IsOfCode-loaded (λ setup. IsVerified c.args.subject.terms) _ c.args.subject.source _ c.verify-answer.result c.in_ok-code.ensures.loaded
    (rw c.as_slice.ensures.value at c.verify-answer.ensures.verdict)
