use Rattle.apd_program.specs.Certifying.{IsCertificateWithin}
use Rattle.apd_program.proofs.Said.{IsOfProgram-decoded, IsOfProgram-undecoded}
use Rattle.apd_program.proofs.certificates.certify.Goals as goal

pub returns-in-Ok-clause-certificate : goal.returns-in-Ok-clause-certificate
returns-in-Ok-clause-certificate c = IsOfProgram-decoded (IsCertificateWithin c.args.terms) _ _ _ c.in-Ok.program c.in-Ok.ensures.ok c.in-Ok.ensures.shapes c.certified.ensures.certificate

pub returns-in-Err-clause-certificate : goal.returns-in-Err-clause-certificate
returns-in-Err-clause-certificate c = IsOfProgram-undecoded (IsCertificateWithin c.args.terms) _ _ _ c.in-Err.fault c.in-Err.ensures.err c.undecoded.ensures.fault
