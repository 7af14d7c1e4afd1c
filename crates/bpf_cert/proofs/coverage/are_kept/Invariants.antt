use Rattle.std.proofs.Common.{◌≡◌, ◌≤◌, ◌<◌, ℕ, get_or}
use Rattle.bpf_cert.specs.declared.claim.Claim.{Claim}
use Rattle.bpf_cert.specs.Covered.{LeadsWithin}
use Rattle.bpf_cert.specs.Limits.{CountsMore}
use Rattle.bpf_cert.proofs.coverage.are_kept.Given as goal

abbrev pub invariant-loop-place : goal.invariant-loop-place
invariant-loop-place g l = record {
  kept : (k : ℕ) (d : Claim) → k < l.place → LeadsWithin l.program l.claims (get_or l.claims k d).budget (get_or l.claims k d).state;
  limit : g.M.Meter.limit l.work ≡ g.M.Meter.limit l.initial.work;
  examined : CountsMore (g.M.Meter.limit l.initial.work) l.place (g.M.Meter.examined l.initial.work) (g.M.Meter.examined l.work);
  later : g.M.Meter.examined l.initial.work ≤ g.M.Meter.examined l.work;
  least : g.M.Meter.compared l.initial.work ≤ g.M.Meter.compared l.work;
}
