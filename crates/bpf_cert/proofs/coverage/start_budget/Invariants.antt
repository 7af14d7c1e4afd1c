use Rattle.std.proofs.Common.{◌<◌, ℕ, get_or}
use Rattle.std.specs.Prelude.{MatchOption}
use Rattle.bpf_absstate.specs.View.{entry_view}
use Rattle.bpf_cert.specs.declared.claim.Claim.{Claim}
use Rattle.bpf_cert.specs.Covered.{Includes}
use Rattle.bpf_cert.specs.Steps.{IsLeast}
use Rattle.bpf_cert.proofs.coverage.start_budget.Given as goal

abbrev pub invariant-loop-place : goal.invariant-loop-place
invariant-loop-place l = MatchOption l.best ((k : ℕ) (d : Claim) → k < l.place → Includes (get_or l.claims k d) entry_view → ⊥) (IsLeast l.claims l.place)
