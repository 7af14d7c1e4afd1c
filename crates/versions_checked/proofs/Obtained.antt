-- What a certificate's fault says of a publication.
use Rattle.std.proofs.Common.{ℕ, Option, Err}
use Rattle.bpf_cert.specs.Certified.{Admits}
use Rattle.bpf_cert.specs.Limits.{Within, HasPassedLimit}
use Rattle.bpf_cert.specs.declared.fault.CertFault.TheVariants as fault
use Rattle.bpf_cert.specs.declared.limit.WithinFault.{WithinFault}
use Rattle.bpf_cert.specs.declared.limit.WithinFault.TheVariants as within
use Rattle.versions.specs.Lists.{Beginning}
use Rattle.versions_checked.specs.Publishing.{Obtains}
use Rattle.versions_checked.specs.declared.fault.CheckedFault.TheVariants.{Certificate}
use Rattle.versions_checked.specs.declared.offer.Offer.{Offer}

pub refused_obtains : (most : Option ℕ) (old : Beginning) (o : Offer) (e : WithinFault) (b : ℕ) → Within (HasPassedLimit most) (λ r. Admits r b) (Err e) → Obtains most old o (Err (Certificate e)) b
refused_obtains most old o (within.Refused fault.NoMemory) b h = tt
refused_obtains most old o (within.Refused fault.Malformed) b h = absurd h
refused_obtains most old o (within.Refused fault.Other) b h = absurd h
refused_obtains most old o (within.Refused fault.NotCovered) b h = absurd h
refused_obtains most old o within.TooMuchWork b h = h
