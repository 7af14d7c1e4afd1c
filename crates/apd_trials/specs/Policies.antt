-- What the verifier says of a policy, by what the files hold.
use Rattle.std.specs.Prelude.{◌≡◌, ◌≢◌, ◌^◌, ℕ, List, [], Option, Some, None}
use Rattle.bpf_regions.specs.declared.hooks.Hook.{Hook}
use Rattle.bpf_decode.specs.Program.{Code, Spells}
use Rattle.bpf_decode.specs.Answer.{Refuses, fault_number}
use Rattle.bpf_decode.specs.declared.fault.DecodeFault.{DecodeFault}
use Rattle.bpf_decode.specs.declared.fault.DecodeFault.TheVariants as decode_fault
use Rattle.bpf_rules.specs.Faults.{number_of}
use Rattle.bpf_rules.specs.declared.fault.Fault.TheVariants as verify_fault
use Rattle.bpf_verifier.specs.Admission.{IsSafeBudget, IsRefusal}
use Rattle.apd_files.specs.Held.{Held, Holds, HoldsKept}
use Rattle.apd_config.specs.Text.{IsTextOf}
use Rattle.apd_config.specs.declared.configuration.Configuration.{Configuration}
use Rattle.apd_trials.specs.declared.admission.Admission.{Admission}
use Rattle.apd_trials.specs.declared.admission.Admission.TheVariants.{Accepted, Unadmitted}
use Rattle.apd_trials.specs.declared.admission.Reason.{Reason}
use Rattle.apd_trials.specs.declared.admission.Reason.TheVariants as reason
use Rattle.apd_trials.specs.declared.admission.Setup.{Setup}

-- the file is a configuration with these maps and this first draw
pub record HoldsSetup (files : Held) (path : List ℕ) (setup : Setup) : Type 0 where
  pub text : List ℕ
  pub there : Holds files path text
  pub configuration : Configuration
  pub is : IsTextOf text configuration
  pub maps : setup.shapes ≡ configuration.maps
  pub draw : setup.draw ≡ configuration.draw

-- without a configuration: no maps, and 0 is drawn first
abbrev pub Configures : Held → Option (List ℕ) → Setup → Type 0
Configures files None setup = setup ≡ record { shapes = []; draw = 0 }
Configures files (Some path) setup = HoldsSetup files path setup

-- what the verifier says of a program for a hook, whose first draw is this: it is safe within its budget, or refused, and
-- never for lack of memory
abbrev pub IsProgramVerdict : Hook → Code → ℕ → Admission → Type 0
IsProgramVerdict hook program draw (Accepted v first) =
    (v.code ≡ program) × (v.hook ≡ hook) × IsSafeBudget program (2 ^ 22) v.budget × (first ≡ draw)
IsProgramVerdict hook program draw (Unadmitted (reason.Refused e)) =
    IsRefusal program (2 ^ 22) e × (e.fault ≢ verify_fault.NoMemory)
IsProgramVerdict hook program draw (Unadmitted (reason.Fault e)) = ⊥

-- code has this fault, which isn't lack of memory
abbrev pub IsUndecoded : DecodeFault → Admission → Type 0
IsUndecoded e a = (a ≡ Unadmitted (reason.Fault e)) × (e ≢ decode_fault.NoMemory)

-- the same of code, for maps of a setup: it isn't well formed, or this is said of the program that it spells
pub data IsVerdict (hook : Hook) (code : List ℕ) (setup : Setup) : Admission → Type 0 where
  Undecoded : (e : DecodeFault) → e ≢ decode_fault.NoMemory → Refuses code setup.shapes e →
      IsVerdict hook code setup (Unadmitted (reason.Fault e))
  Decoded : (program : Code) (a : Admission) → Spells code program → program.shapes ≡ setup.shapes →
      IsProgramVerdict hook program setup.draw a → IsVerdict hook code setup a

-- the number of a reason
abbrev pub number_of_reason : Reason → ℕ
number_of_reason (reason.Fault e) = fault_number e
number_of_reason (reason.Refused e) = number_of e.fault

-- what the verifier says of a file's code, with the maps of a configuration (what is kept of code is all of it, or, if
-- it is too long, enough to be refused for that)
pub record IsJudged (files : Held) (hook : Hook) (path : List ℕ) (config : Option (List ℕ)) (a : Admission) : Type 0 where
  pub setup : Setup
  pub configured : Configures files config setup
  pub kept : List ℕ
  pub held : HoldsKept (2 ^ 17) files path kept
  pub says : IsVerdict hook kept setup a

-- the same of a policy, if there is one
abbrev pub IsAdmission : Held → Option (Hook × List ℕ) → Option (List ℕ) → Admission → Type 0
IsAdmission files None config a = ⊥
IsAdmission files (Some policy) config a = IsJudged files policy.0 policy.1 config a
