use Rattle.apd_program.specs.Certifying.{IsCertificateWithin}
use Rattle.apd_program.proofs.KeptCode.{IsOfCode-loaded}
use Rattle.apd_program.proofs.program.certify.Goals as goal

pub returns-clause-certificate : goal.returns-clause-certificate
returns-clause-certificate g c =
    IsOfCode-loaded (λ setup. IsCertificateWithin c.args.subject.terms) _ c.args.subject.source _ c.certify-answer.result c.in_ok-code.ensures.loaded
    (rw c.as_slice.ensures.value at c.certify-answer.ensures.certificate)
