-- What is told of a budget within a limit of work.
use Rattle.std.proofs.Common.{◌≡◌, ℕ, Some, Result, Ok, Err, ap, sym}
use Rattle.bpf_prune.specs.Spending.{Tally, HasPassed, CountsAll}
use Rattle.bpf_cert.specs.declared.fault.CertFault.{CertFault}
use Rattle.bpf_cert.specs.declared.fault.CertFault.TheVariants as fault
use Rattle.bpf_cert.specs.declared.limit.WithinFault.{WithinFault}
use Rattle.bpf_cert.specs.declared.limit.WithinFault.TheVariants as within
use Rattle.bpf_cert.specs.Certified.{Answers, Admits}
use Rattle.bpf_cert.specs.Limits.{Within, HasPassedLimit}

-- a refusal of a budget is one of a program
pub answers_admits : (passed : Type 0) (e : WithinFault) (b : ℕ) → Within passed (λ r. Answers r b) (Err e) → Within passed (λ r. Admits r b) (Err e)
answers_admits passed (within.Refused fault.NoMemory) b h = tt
answers_admits passed (within.Refused fault.Malformed) b h = absurd h
answers_admits passed (within.Refused fault.Other) b h = absurd h
answers_admits passed (within.Refused fault.NotCovered) b h = absurd h
answers_admits passed within.TooMuchWork b h = h

-- work within a limit that has passed it
pub passed_limits : {X : Type 0} (most : ℕ) (w : Tally) (P : Result X CertFault → Type 0) (r : Result X WithinFault) → w.most ≡ most → CountsAll w → Within (HasPassed w) P r → Within (HasPassedLimit (Some most)) P r
passed_limits most w P (Ok x) is all h = h
passed_limits most w P (Err (within.Refused f)) is all h = h
passed_limits most w P (Err within.TooMuchWork) is all h = record { tally = w; within = ap Some (sym is); counted = all; passed = h }
