use Rattle.std.proofs.Common.{refl, subst}
use Rattle.apd_files.specs.Held.{Held, HoldsCode}
use Rattle.apd_files.specs.Faults.{IsFaultOf}
use Rattle.apd_files.specs.declared.inputs.files.FileKind.TheVariants as kind
use Rattle.apd_run.specs.Adopting.{Read, CodeNotRead, CertificateNotRead, NoRoomToRead}
use Rattle.apd_run.proofs.KeptCode.{AdoptsCode-kept}
use Rattle.apd_run.proofs.loads.programs.Loads.adopt.Goals as goal

pub returns-in-NoMemory-clause-adopts : goal.returns-in-NoMemory-clause-adopts
returns-in-NoMemory-clause-adopts g c = NoRoomToRead refl

pub returns-in_default-clause-adopts : goal.returns-in_default-clause-adopts
returns-in_default-clause-adopts g c =
    CodeNotRead c.in-Err.fault c.in_default.not-NoMemory c.in-Err.ensures.fault refl

pub returns-in-Ok-read_certificate-clause-adopts : goal.returns-in-Ok-read_certificate-clause-adopts
returns-in-Ok-read_certificate-clause-adopts g c =
    let h = c.in-Ok.ensures.code in
    let bytes = c.in-Ok-read_certificate.bytes.items in
    Read h.code bytes c.adopt_code-told.result h.held
    (subst (λ (f : Held). HoldsCode f c.args.adoption.certificate.now bytes) c.in-Ok.ensures.same c.in-Ok-read_certificate.ensures.certificate)
    (AdoptsCode-kept _ _ _ _ h.code _ bytes _ h.keeps (rw c.as_slice.ensures.value at (rw c.as_slice-in-Ok-read_certificate.ensures.value at c.adopt_code-told.ensures)))

pub returns-in-NoMemory-fault-clause-adopts : goal.returns-in-NoMemory-fault-clause-adopts
returns-in-NoMemory-fault-clause-adopts g c = NoRoomToRead refl

pub returns-in_default-fault-clause-adopts : goal.returns-in_default-fault-clause-adopts
returns-in_default-fault-clause-adopts g c =
    CertificateNotRead c.in-Err-read_certificate.fault c.in_default-fault.not-NoMemory
    (subst (λ (h : Held). IsFaultOf kind.Certificate h c.args.adoption.certificate.now c.in-Err-read_certificate.fault) c.in-Ok.ensures.same
    c.in-Err-read_certificate.ensures.fault) refl
