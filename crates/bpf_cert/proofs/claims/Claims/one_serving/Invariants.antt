use Rattle.std.proofs.Common.{◌≡◌, ◌≤◌}
use Rattle.bpf_cert.proofs.claims.Claims.one_serving.Given as goal

abbrev pub invariant-loop-spot : goal.invariant-loop-spot
invariant-loop-spot g l = record {
  limit : g.M.Meter.limit l.work ≡ g.M.Meter.limit l.initial.work;
  examined : g.M.Meter.examined l.work ≡ g.M.Meter.examined l.initial.work;
  least : g.M.Meter.compared l.initial.work ≤ g.M.Meter.compared l.work;
}
