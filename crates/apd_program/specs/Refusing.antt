-- Answers that are refusals, never for lack of memory.
use Rattle.std.specs.Prelude.{◌≡◌, ◌≢◌}
use Rattle.bpf_decode.specs.declared.fault.DecodeFault.{DecodeFault}
use Rattle.bpf_decode.specs.declared.fault.DecodeFault.TheVariants as decode_fault
use Rattle.bpf_rules.specs.declared.fault.Fault.TheVariants as verify_fault
use Rattle.bpf_verifier.specs.declared.refusal.Refusal.{Refusal}
use Rattle.bpf_cert.specs.declared.fault.CertFault.TheVariants as cert_fault
use Rattle.bpf_cert.specs.declared.limit.WithinFault.{WithinFault}
use Rattle.bpf_cert.specs.declared.limit.WithinFault.TheVariants as within
use Rattle.apd_program.specs.declared.answer.Answer.{Answer}
use Rattle.apd_program.specs.declared.answer.Answer.TheVariants.{Fault, Refused, Unaccepted}

-- the code isn't well formed
abbrev pub IsUndecoded : DecodeFault → Answer → Type 0
IsUndecoded e a = (a ≡ Fault e) × (e ≢ decode_fault.NoMemory)

-- the program isn't admitted
abbrev pub IsRefused : Refusal → Answer → Type 0
IsRefused e a = (a ≡ Refused e) × (e.fault ≢ verify_fault.NoMemory)

-- the certificate isn't accepted
abbrev pub IsUnaccepted : WithinFault → Answer → Type 0
IsUnaccepted e a = (a ≡ Unaccepted e) × (e ≢ within.Refused cert_fault.NoMemory)
