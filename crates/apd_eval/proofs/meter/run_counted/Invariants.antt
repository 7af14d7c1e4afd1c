-- The steps so far are counted.
use Rattle.std.proofs.Common.{◌≡◌, ◌-◌}
use Rattle.bpf_machine.specs.Runs.{setting_of}
use Rattle.apd_eval.proofs.Counting.{TallySoFar}
use Rattle.apd_eval.proofs.meter.run_counted.Given as goal

abbrev pub invariant-steps : goal.invariant-steps
invariant-steps g l =
    record {
      far : TallySoFar g.P.Port.gives (setting_of l.fn.accepted.code l.fn.frame l.fn.context) l.initial.port l.port l.initial.counts l.counts l.bare;
      shapes : g.P.Port.shapes l.port ≡ l.fn.accepted.code.shapes;
    }

abbrev pub decreases-steps : goal.decreases-steps
decreases-steps g l = l.fn.accepted.budget - l.bare.steps
