-- The outcome for a program offered with a certificate.
use Rattle.std.specs.Prelude.{◌≡◌, ◌≢◌, ℕ, Option, Result, Ok, Err, Some}
use Rattle.bpf_model.specs.Run.{Safe}
use Rattle.bpf_machine.specs.Verified.{Verified}
use Rattle.bpf_cert.specs.Certified.{Covered, Refuses}
use Rattle.bpf_cert.specs.Limits.{HasPassedLimit}
use Rattle.bpf_cert.specs.declared.fault.CertFault.TheVariants as certificate
use Rattle.bpf_cert.specs.declared.limit.WithinFault.TheVariants as within
use Rattle.versions.specs.Lists.{Beginning, with_load}
use Rattle.versions.specs.Sets.{load}
use Rattle.versions.specs.declared.fault.PublishFault.TheVariants as publication
use Rattle.versions_checked.specs.declared.fault.CheckedFault.{CheckedFault}
use Rattle.versions_checked.specs.declared.fault.CheckedFault.TheVariants.{Certificate, Publication}
use Rattle.versions_checked.specs.declared.offer.Offer.{Offer}

-- the certificate shows that the program is safe within b instructions
abbrev pub IsShown : Offer → ℕ → Type 0
IsShown o b = Covered o.program o.hook o.certificate.now b

-- the program with that budget
abbrev pub verified : Offer → ℕ → Verified
verified o b = record { code = o.program; hook = o.hook; budget = b }

-- The program was loaded for its hook with a budget that the certificate shows and within which it is safe, and its map
-- shapes are those of the list.
pub record IsPublished (old new : Beginning) (o : Offer) (b : ℕ) : Type 0 where
  pub shown : IsShown o b
  pub safe : Safe o.program.slots o.program.shapes b
  pub shapes : o.program.shapes ≡ old.shapes
  pub is : new ≡ with_load old (load o.hook (Some (verified o b)))

-- a program whose certificate shows a budget is refused because its map shapes differ
pub record HasOtherShapes (old : Beginning) (o : Offer) : Type 0 where
  pub budget : ℕ
  pub shown : IsShown o budget
  pub differ : o.program.shapes ≢ old.shapes

-- why it was refused: the certificate; or the work of its check, which has passed its limit; or else the map shapes;
-- lack of memory says nothing
abbrev pub IsRefusal : Option ℕ → Beginning → Offer → CheckedFault → Type 0
IsRefusal most old o (Certificate (within.Refused fault)) = Refuses o.program o.hook o.certificate.now fault
IsRefusal most old o (Certificate within.TooMuchWork) = HasPassedLimit most
IsRefusal most old o (Publication publication.NoMemory) = Unit {0}
IsRefusal most old o (Publication publication.OtherShapes) = HasOtherShapes old o

-- the result if the certificate shows a budget: that one, 60 if the shapes differ, 40, or 36 if the work has passed its
-- limit
abbrev pub Obtains : Option ℕ → Beginning → Offer → Result ℕ CheckedFault → ℕ → Type 0
Obtains most old o (Ok n) b = n ≡ b
Obtains most old o (Err (Certificate (within.Refused certificate.NoMemory))) b = Unit {0}
Obtains most old o (Err (Certificate (within.Refused _))) b = ⊥
Obtains most old o (Err (Certificate within.TooMuchWork)) b = HasPassedLimit most
Obtains most old o (Err (Publication publication.NoMemory)) b = Unit {0}
Obtains most old o (Err (Publication publication.OtherShapes)) b = o.program.shapes ≢ old.shapes
