-- What an adoption does and returns.
use Rattle.std.specs.Prelude.{◌≡◌, ◌≢◌, ℕ, List, Option, length}
use Rattle.bpf_regions.specs.declared.hooks.Hook.{Hook}
use Rattle.bpf_decode.specs.Program.{Code, Spells}
use Rattle.bpf_decode.specs.Answer as decoding
use Rattle.bpf_decode.specs.declared.fault.DecodeFault.{DecodeFault}
use Rattle.bpf_decode.specs.declared.fault.DecodeFault.TheVariants as decode
use Rattle.bpf_cert.specs.Certified.{Covered, Refuses}
use Rattle.bpf_cert.specs.Faults.{number_of}
use Rattle.bpf_cert.specs.declared.fault.CertFault.{CertFault}
use Rattle.bpf_cert.specs.declared.fault.CertFault.TheVariants as check
use Rattle.bpf_cert.specs.declared.limit.WithinFault.{WithinFault}
use Rattle.bpf_cert.specs.declared.limit.WithinFault.TheVariants as within
use Rattle.bpf_cert.specs.Limits.{HasPassedLimit, number_within}
use Rattle.versions.specs.Lists.{Beginning}
use Rattle.apd_files.specs.Held.{Held, HoldsCode}
use Rattle.apd_files.specs.Faults.{IsFaultOf}
use Rattle.apd_files.specs.declared.inputs.files.FileKind.TheVariants as kind
use Rattle.apd_files.specs.declared.inputs.code.CodeFault.{CodeFault}
use Rattle.apd_files.specs.declared.inputs.code.CodeFault.TheVariants as read
use Rattle.apd_driver.specs.declared.reports.report.Unread.TheVariants as unread
use Rattle.apd_driver.specs.declared.reports.report.Told.{Told}
use Rattle.apd_driver.specs.declared.reports.report.Told.TheVariants.{Memory, Loaded, Fault, Certificate, Unreadable}
use Rattle.apd_run.specs.Loading.{IsInForce}

-- the report on a certificate's fault
abbrev pub certificate_told : WithinFault → Told
certificate_told (within.Refused check.NoMemory) = Memory
certificate_told fault = Certificate (number_within fault)

-- the program is newly in force for the hook, and safe within the budget that the certificate shows
pub record IsAdopted (hook : Hook) (program : Code) (certificate : List ℕ) (old new : Beginning) (budget : ℕ) : Type 0 where
  pub force : IsInForce hook program old new budget
  pub covered : Covered program hook certificate budget

-- an adoption of a program by a certificate, within a limit of work, and its report
pub data AdoptsProgram (work : Option ℕ) (hook : Hook) (program : Code) (certificate : List ℕ) (old new : Beginning) : Told → Type 0 where
  Certified : (budget : ℕ) → IsAdopted hook program certificate old new budget → AdoptsProgram work hook program certificate old new (Loaded budget (length program.slots))
  NotCertified : (fault : CertFault) → fault ≢ check.NoMemory → Refuses program hook certificate fault → new ≡ old
      → AdoptsProgram work hook program certificate old new (Certificate (number_of fault))
  NotChecked : HasPassedLimit work → new ≡ old → AdoptsProgram work hook program certificate old new (Certificate 36)
  NoRoomToAdopt : new ≡ old → AdoptsProgram work hook program certificate old new Memory

-- the same of code, which spells one program for the maps in use, or has a fault
pub data AdoptsCode (work : Option ℕ) (hook : Hook) (code certificate : List ℕ) (old new : Beginning) : Told → Type 0 where
  Decoded : (program : Code) (told : Told) → Spells code program → program.shapes ≡ old.shapes
      → AdoptsProgram work hook program certificate old new told → AdoptsCode work hook code certificate old new told
  NotDecoded : (fault : DecodeFault) → fault ≢ decode.NoMemory → decoding.Refuses code old.shapes fault → new ≡ old
      → AdoptsCode work hook code certificate old new (Fault fault)
  NoRoomToDecode : new ≡ old → AdoptsCode work hook code certificate old new Memory

-- the same of two files, as far as their contents are known
pub data AdoptsFiles (files : Held) (work : Option ℕ) (hook : Hook) (path shown : List ℕ) (old new : Beginning) : Told → Type 0 where
  Read : (code certificate : List ℕ) (told : Told) → HoldsCode files path code → HoldsCode files shown certificate
      → AdoptsCode work hook code certificate old new told → AdoptsFiles files work hook path shown old new told
  CodeNotRead : (fault : CodeFault) → fault ≢ read.NoMemory → IsFaultOf kind.Code files path fault → new ≡ old
      → AdoptsFiles files work hook path shown old new (Unreadable (unread.Code fault))
  CertificateNotRead : (fault : CodeFault) → fault ≢ read.NoMemory → IsFaultOf kind.Certificate files shown fault → new ≡ old
      → AdoptsFiles files work hook path shown old new (Unreadable (unread.Certificate fault))
  NoRoomToRead : new ≡ old → AdoptsFiles files work hook path shown old new Memory
