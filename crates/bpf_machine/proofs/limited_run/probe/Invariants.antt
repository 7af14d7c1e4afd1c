use Rattle.std.proofs.Common.{◌≡◌, ◌-◌, ◌≤◌}
use Rattle.bpf_tagged.specs.Took.{IsPaired}
use Rattle.bpf_machine.specs.Runs.{setting_of}
use Rattle.bpf_machine.specs.SoFar.{SoFar}
use Rattle.bpf_machine.proofs.limited_run.probe.Given as goal

abbrev pub invariant-steps : goal.invariant-steps
invariant-steps g l =
    record {
      far : SoFar g.P.Port.gives (setting_of l.fn.program l.fn.frame l.fn.context) l.steps l.initial.port l.port l.machine l.notes.items;
      within : l.steps ≤ l.fn.limit;
      paired : IsPaired l.machine;
      shapes : g.P.Port.shapes l.port ≡ l.fn.program.shapes;
    }

abbrev pub decreases-steps : goal.decreases-steps
decreases-steps g l = l.fn.limit - l.steps
