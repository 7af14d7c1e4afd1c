use Rattle.std.proofs.Common.{◌≡◌, ◌+◌, ℕ, Some}
use Rattle.bpf_cert.proofs.limit.spend_all.Given as goal

abbrev pub invariant-loop-left : goal.invariant-loop-left
invariant-loop-left g l = record {
  limit : g.M.Meter.limit l.work ≡ g.M.Meter.limit l.initial.work;
  examined : g.M.Meter.examined l.work ≡ g.M.Meter.examined l.initial.work;
  compared : g.M.Meter.compared l.work ≡ g.M.Meter.compared l.initial.work;
  spent : (most : ℕ) → g.M.Meter.limit l.initial.work ≡ Some most → g.M.Meter.spent l.work + l.left ≡ g.M.Meter.spent l.initial.work + l.initial.left;
}

abbrev pub decreases-loop-left : goal.decreases-loop-left
decreases-loop-left g l = l.left
