-- What a load does and returns.
use Rattle.std.specs.Prelude.{◌≡◌, ◌≢◌, ◌≤◌, ℕ, List, length, Some}
use Rattle.bpf_regions.specs.declared.hooks.Hook.{Hook}
use Rattle.bpf_decode.specs.Program.{Code, Spells}
use Rattle.bpf_decode.specs.Answer.{Refuses}
use Rattle.bpf_decode.specs.declared.fault.DecodeFault.{DecodeFault}
use Rattle.bpf_decode.specs.declared.fault.DecodeFault.TheVariants as decode
use Rattle.bpf_model.specs.Run.{Safe}
use Rattle.bpf_machine.specs.Verified.{Verified}
use Rattle.bpf_rules.specs.Faults.{number_of}
use Rattle.bpf_rules.specs.declared.fault.Fault.TheVariants as verify
use Rattle.bpf_verifier.specs.Admission.{IsRefusalWithin}
use Rattle.bpf_verifier.specs.declared.limit.Limits.{Limits}
use Rattle.bpf_verifier.specs.declared.refusal.Refusal.{Refusal}
use Rattle.versions.specs.Lists.{Beginning, with_load}
use Rattle.versions.specs.Sets.{load}
use Rattle.apd_files.specs.Held.{Held, HoldsCode}
use Rattle.apd_files.specs.Faults.{IsFaultOf}
use Rattle.apd_files.specs.declared.inputs.files.FileKind.TheVariants as kind
use Rattle.apd_files.specs.declared.inputs.code.CodeFault.{CodeFault}
use Rattle.apd_files.specs.declared.inputs.code.CodeFault.TheVariants as read
use Rattle.apd_driver.specs.declared.reports.report.Unread.TheVariants as unread
use Rattle.apd_driver.specs.declared.reports.report.Told.{Told}
use Rattle.apd_driver.specs.declared.reports.report.Told.TheVariants.{Memory, Loaded, Fault, Refused, Unreadable}

-- the program is newly in force for the hook, and safe within its budget
pub record IsInForce
    (hook : Hook) (program : Code) (old new : Beginning) (budget : ℕ) : Type 0 where
  pub accepted : Verified
  pub code_is : accepted.code ≡ program
  pub hook_is : accepted.hook ≡ hook
  pub budget_is : accepted.budget ≡ budget
  pub safe : Safe program.slots program.shapes budget
  pub loaded : new ≡ with_load old (load hook (Some accepted))

-- it is, or an allocation failed
pub data PutsInForce (hook : Hook) (a : Verified) (old new : Beginning) : Told → Type 0 where
  InForce : IsInForce hook a.code old new a.budget → PutsInForce hook a old new (Loaded a.budget (length a.code.slots))
  NoRoomToPut : new ≡ old → PutsInForce hook a old new Memory

-- the verifier refuses the program within the limits, and nothing changes
pub record IsRefused
    (limits : Limits) (program : Code) (old new : Beginning) (refusal : Refusal) : Type 0 where
  pub reason : refusal.fault ≢ verify.NoMemory
  pub of_verifier : IsRefusalWithin program limits refusal
  pub unchanged : new ≡ old

-- the report on a refusal
abbrev pub refused_told : Refusal → Told
refused_told r = Refused (number_of r.fault) r.pc

-- a load of a program, and its report
pub data LoadsProgram
    (limits : Limits) (hook : Hook) (program : Code) (old new : Beginning) : Told → Type 0 where
  Admitted : (budget : ℕ) → IsInForce hook program old new budget → budget ≤ limits.states →
      LoadsProgram limits hook program old new (Loaded budget (length program.slots))
  NotAdmitted : (refusal : Refusal) → IsRefused limits program old new refusal →
      LoadsProgram limits hook program old new (refused_told refusal)
  NoRoomToLoad : new ≡ old → LoadsProgram limits hook program old new Memory

-- the same of code, which spells one program for the maps in use, or has a fault
pub data LoadsCode
    (limits : Limits) (hook : Hook) (code : List ℕ) (old new : Beginning) : Told → Type 0 where
  Decoded : (program : Code) (told : Told) → Spells code program → program.shapes ≡ old.shapes
      → LoadsProgram limits hook program old new told → LoadsCode limits hook code old new told
  NotDecoded : (fault : DecodeFault) → fault ≢ decode.NoMemory →
      Refuses code old.shapes fault → new ≡ old
      → LoadsCode limits hook code old new (Fault fault)
  NoRoomToDecode : new ≡ old → LoadsCode limits hook code old new Memory

-- the same of a file, as far as its contents are known
pub data LoadsFile (files : Held) (limits : Limits) (hook : Hook) (path : List ℕ)
    (old new : Beginning) : Told → Type 0 where
  Read : (code : List ℕ) (told : Told) → HoldsCode files path code →
      LoadsCode limits hook code old new told
      → LoadsFile files limits hook path old new told
  NotRead : (fault : CodeFault) → fault ≢ read.NoMemory → IsFaultOf kind.Code files path fault → new ≡ old
      → LoadsFile files limits hook path old new (Unreadable (unread.Code fault))
  NoRoomToRead : new ≡ old → LoadsFile files limits hook path old new Memory
