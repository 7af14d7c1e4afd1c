-- The numbers of refusals.
use Rattle.std.specs.Prelude.{ℕ}
use Rattle.bpf_cert_format.specs.declared.fault.ReadFault.{ReadFault}
use Rattle.bpf_cert_format.specs.declared.fault.ReadFault.TheVariants as read
use Rattle.bpf_cert.specs.declared.fault.CertFault.{CertFault}
use Rattle.bpf_cert.specs.declared.fault.CertFault.TheVariants.{NoMemory, Malformed, Other, NotCovered}

-- the number of each refusal of a certificate
abbrev pub number_of : CertFault → ℕ
number_of NoMemory = 40
number_of Malformed = 70
number_of Other = 71
number_of NotCovered = 72

-- the fault for bytes that couldn't be read
abbrev pub fault_of : ReadFault → CertFault
fault_of read.Memory = NoMemory
fault_of read.Malformed = Malformed
