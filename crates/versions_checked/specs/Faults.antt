-- The numbers of refusals.
use Rattle.std.specs.Prelude.{ℕ}
use Rattle.bpf_cert.specs.Limits as certificate
use Rattle.versions.specs.Faults as publication
use Rattle.versions_checked.specs.declared.fault.CheckedFault.{CheckedFault}
use Rattle.versions_checked.specs.declared.fault.CheckedFault.TheVariants.{Certificate, Publication}

-- the number of the certificate's fault, or of the publication's
abbrev pub number_of : CheckedFault → ℕ
number_of (Certificate fault) = certificate.number_within fault
number_of (Publication fault) = publication.number_of fault
