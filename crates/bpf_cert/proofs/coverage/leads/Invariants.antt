use Rattle.std.proofs.Common.{◌≡◌, ◌≤◌}
use Rattle.bpf_cert.specs.Covered.{LeadsWithin}
use Rattle.bpf_cert.specs.Steps.{IsSame}
use Rattle.bpf_cert.proofs.coverage.leads.Given as goal

abbrev pub invariant-loop-left : goal.invariant-loop-left
invariant-loop-left g l = record {
  same : IsSame (LeadsWithin l.program l.claims l.fn.claim.budget l.fn.claim.state) (LeadsWithin l.program l.claims l.left l.state);
  limit : g.M.Meter.limit l.work ≡ g.M.Meter.limit l.initial.work;
  later : g.M.Meter.examined l.initial.work ≤ g.M.Meter.examined l.work;
  least : g.M.Meter.compared l.initial.work ≤ g.M.Meter.compared l.work;
}

abbrev pub decreases-loop-left : goal.decreases-loop-left
decreases-loop-left g l = l.left
