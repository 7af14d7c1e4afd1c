use Rattle.std.proofs.Common.{◌≡◌, ◌≤◌, ◌<◌, ◌+◌, ◌*◌, ℕ, length, take, drop}
use Rattle.bpf_absstate.specs.View.{View}
use Rattle.bpf_verifier.specs.Counting.{states_from}
use Rattle.bpf_verifier.specs.Path.{Linked}
use Rattle.bpf_verifier.specs.Traced.{LeadsExactly, IsOpened}
use Rattle.bpf_verifier.proofs.fold.Fold.unfold.Given as goal

abbrev pub invariant-loop-k : goal.invariant-loop-k
invariant-loop-k l = record {
  frames : l.frames.items ≡ take l.k l.fn.self;
  rest : (after : ℕ) × (a : View) × Linked (LeadsExactly l.program) (IsOpened l.program) (drop l.k l.fn.self) after l.current a;
  some : 0 < length (take l.k l.fn.self);
  most : l.work.most ≡ l.fn.work.most;
  examined : l.work.examined ≡ l.fn.work.examined;
  remade : l.work.remade ≡ l.fn.work.remade + states_from (take l.k l.fn.self);
  units : l.work.units + 563 * l.fn.work.remade ≤ l.fn.work.units + 563 * l.work.remade;
}
