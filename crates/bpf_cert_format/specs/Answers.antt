-- Results of reading and writing.
use Rattle.std.specs.Prelude.{◌≡◌, ℕ, List, length, Option, Some, None, Result, Ok, Err, IsOkUnless}
use Rattle.bpf_regions.specs.declared.maps.Shape.{Shape}
use Rattle.bpf_cert_format.specs.declared.fault.ReadFault.{ReadFault}
use Rattle.bpf_cert_format.specs.declared.fault.ReadFault.TheVariants.{Memory, Malformed}
use Rattle.bpf_cert_format.specs.declared.fault.WriteFault.{WriteFault}
use Rattle.bpf_cert_format.specs.declared.fault.WriteFault.TheVariants as writing
use Rattle.bpf_cert_format.specs.Fits.{FitsCertificate}
use Rattle.bpf_cert_format.specs.Spelling.{spelling}
use Rattle.bpf_cert_format.specs.Views.{CertificateView}

-- Malformed: reading gives nothing; Memory says nothing about it
abbrev pub Fails : {Y : Type 0} → ReadFault → Option Y → Type 0
Fails Memory read = Unit {0}
Fails Malformed read = read ≡ None

-- the result, seen by view, is what reading gives, or its fault
abbrev pub Gives : {X Y : Type 0} → (X → Y) → Result X ReadFault → Option Y → Type 0
Gives view (Ok x) read = read ≡ Some (view x)
Gives view (Err e) read = Fails e read

-- the bytes are the spelling of a certificate for maps of these shapes
pub record Spells (shapes : List Shape) (bytes : List ℕ) (c : CertificateView) : Type 0 where
  pub fits : FitsCertificate (length shapes) c
  pub spelled : bytes ≡ spelling c

-- the result is that certificate, or memory is lacking
abbrev pub Reads : Result CertificateView ReadFault → CertificateView → Type 0
Reads (Ok x) c = x ≡ c
Reads (Err Memory) c = Unit {0}
Reads (Err Malformed) c = ⊥

-- the result is a success, or lack of memory
abbrev pub RefusedForMemoryAlone : {X : Type 0} → Result X WriteFault → Type 0
RefusedForMemoryAlone result = IsOkUnless result writing.Memory
