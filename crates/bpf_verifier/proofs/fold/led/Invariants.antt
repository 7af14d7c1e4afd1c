use Rattle.std.proofs.Common.{◌≡◌, ◌≤◌, ◌+◌, ◌*◌, ◌-◌}
use Rattle.bpf_absstate.specs.View.{View}
use Rattle.bpf_verifier.specs.Traced.{LeadsExactly}
use Rattle.bpf_verifier.proofs.fold.led.Given as goal

abbrev pub invariant-loop-step : goal.invariant-loop-step
invariant-loop-step l = record {
  leads : (b : View) → LeadsExactly l.program l.steps l.fn.state b → LeadsExactly l.program (l.steps - l._step) l.current b;
  most : l.work.most ≡ l.initial.work.most;
  examined : l.work.examined ≡ l.initial.work.examined;
  remade : l.work.remade ≡ l.initial.work.remade + l._step;
  units : l.work.units + 563 * l.initial.work.remade ≤ l.initial.work.units + 563 * l.work.remade;
}
