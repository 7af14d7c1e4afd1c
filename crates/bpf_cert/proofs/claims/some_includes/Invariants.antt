use Rattle.std.proofs.Common.{◌≡◌, ◌≤◌, ◌<◌, ℕ, get_or}
use Rattle.bpf_cert.specs.declared.claim.Claim.{Claim}
use Rattle.bpf_cert.specs.Limits.{CountsMore}
use Rattle.bpf_cert.specs.Steps.{Serves}
use Rattle.bpf_cert.proofs.claims.some_includes.Given as goal

abbrev pub invariant-loop-held : goal.invariant-loop-held
invariant-loop-held g l = record {
  none : (k : ℕ) (d : Claim) → k < l.held-index → Serves (get_or l.list k d) l.state l.left → ⊥;
  limit : g.M.Meter.limit l.work ≡ g.M.Meter.limit l.initial.work;
  examined : g.M.Meter.examined l.work ≡ g.M.Meter.examined l.initial.work;
  least : g.M.Meter.compared l.initial.work ≤ g.M.Meter.compared l.work;
  each : CountsMore (g.M.Meter.limit l.initial.work) l.held-index (g.M.Meter.compared l.initial.work) (g.M.Meter.compared l.work);
}
