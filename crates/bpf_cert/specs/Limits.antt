-- Checks within a limit of work.
use Rattle.std.specs.Prelude.{◌≡◌, ◌≤◌, ◌+◌, ℕ, Bool, true, false, List, length, Option, Some, Result, Ok, Err}
use Rattle.bpf_prune.specs.Spending.{Tally, HasPassed, CountsAll}
use Rattle.bpf_cert.specs.declared.claim.Claim.{Claim}
use Rattle.bpf_cert.specs.declared.fault.CertFault.{CertFault}
use Rattle.bpf_cert.specs.declared.fault.CertFault.TheVariants as fault
use Rattle.bpf_cert.specs.declared.limit.Stop.{Stop}
use Rattle.bpf_cert.specs.declared.limit.Stop.TheVariants as stop
use Rattle.bpf_cert.specs.declared.limit.WithinFault.{WithinFault}
use Rattle.bpf_cert.specs.declared.limit.WithinFault.TheVariants as within
use Rattle.bpf_cert.specs.Faults.{number_of}
use Rattle.bpf_cert_format.specs.declared.fault.WriteFault.{WriteFault}
use Rattle.bpf_cert_format.specs.declared.fault.WriteFault.TheVariants as write
use Rattle.bpf_rules.specs.declared.fault.Fault.{Fault}
use Rattle.bpf_rules.specs.declared.fault.Fault.TheVariants as rule

-- lack of memory; or of work, if it has passed the limit
abbrev pub IsStop : Type 0 → Stop → Type 0
IsStop passed stop.NoMemory = Unit {0}
IsStop passed stop.TooMuchWork = passed

-- the refusal when a check stops
abbrev pub stopped : Stop → WithinFault
stopped stop.NoMemory = within.Refused fault.NoMemory
stopped stop.TooMuchWork = within.TooMuchWork

-- the number of each refusal within a limit
abbrev pub number_within : WithinFault → ℕ
number_within (within.Refused f) = number_of f
number_within within.TooMuchWork = 36

-- what a certificate's maker is told, where its entries aren't found, written or believed
abbrev pub fault_of : Stop → Fault
fault_of stop.NoMemory = rule.NoMemory
fault_of stop.TooMuchWork = rule.TooManyVisits

abbrev pub fault_written : WriteFault → Fault
fault_written write.Memory = rule.NoMemory
fault_written write.TooLarge = rule.TooManyVisits

abbrev pub fault_within : WithinFault → Fault
fault_within (within.Refused fault.NoMemory) = rule.NoMemory
fault_within (within.Refused _) = rule.TooManyVisits
fault_within within.TooMuchWork = rule.TooManyVisits

-- P of the result as it is without a limit, or the work has passed the limit
abbrev pub Within : {X : Type 0} → Type 0 → (Result X CertFault → Type 0) → Result X WithinFault → Type 0
Within passed P (Ok x) = P (Ok x)
Within passed P (Err (within.Refused f)) = P (Err f)
Within passed P (Err within.TooMuchWork) = passed

-- with a limit, exactly one comparison more is counted
abbrev pub CountsOne : Option ℕ → ℕ → ℕ → Type 0
CountsOne limit old new = (most : ℕ) → limit ≡ Some most → new ≡ old + 1

-- with a limit, exactly n units more are counted
abbrev pub CountsUnits : Option ℕ → ℕ → ℕ → ℕ → Type 0
CountsUnits limit n old new = (most : ℕ) → limit ≡ Some most → new ≡ old + n

-- with a limit, at least n comparisons more are counted
abbrev pub CountsMore : Option ℕ → ℕ → ℕ → ℕ → Type 0
CountsMore limit n old new = (most : ℕ) → limit ≡ Some most → old + n ≤ new

-- with a limit, a unit for each of a state's n parts is counted before the state is said to be in a claim
abbrev pub CountsParts : ℕ → Option ℕ → ℕ → ℕ → Bool → Type 0
CountsParts n limit old new told = told ≡ true → CountsMore limit n old new

-- with a limit, a comparison with each of these claims is counted before a state is said to be in none
abbrev pub CountsEach : List Claim → Option ℕ → ℕ → ℕ → Bool → Type 0
CountsEach es limit old new told = told ≡ false → CountsMore limit (length es) old new

-- there is a limit, and the work of a tally within it, which counts all that was done, has passed it
pub record HasPassedLimit (most : Option ℕ) : Type 0 where
  pub tally : Tally
  pub within : most ≡ Some tally.most
  pub counted : CountsAll tally
  pub passed : HasPassed tally
