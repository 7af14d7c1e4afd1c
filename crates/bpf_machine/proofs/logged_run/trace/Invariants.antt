use Rattle.std.proofs.Common.{◌≡◌, ◌-◌, ◌++◌, List}
use Rattle.bpf_machine.specs.declared.outcome.Step.{Step}
use Rattle.bpf_machine.specs.Runs.{setting_of}
use Rattle.bpf_machine.specs.SoFar.{LogSoFar}
use Rattle.bpf_machine.proofs.logged_run.trace.Given as goal

abbrev pub invariant-steps : goal.invariant-steps
invariant-steps g l =
    record {
      far : (made : List Step) × (l.log.items ≡ l.initial.log.items ++ made) × LogSoFar g.P.Port.gives (setting_of l.fn.accepted.code l.fn.frame l.fn.context) made l.initial.port l.port l.bare;
      shapes : g.P.Port.shapes l.port ≡ l.fn.accepted.code.shapes;
    }

abbrev pub decreases-steps : goal.decreases-steps
decreases-steps g l = l.fn.accepted.budget - l.bare.steps
