use Rattle.std.proofs.Common.{◌≡◌, ◌≤◌, ◌-◌, ◌+◌, ◌*◌, ℕ, length}
use Rattle.bpf_model.specs.State.{Setting}
use Rattle.bpf_absstate.specs.View.{entry_view}
use Rattle.bpf_plain.specs.Clear.{IsClear}
use Rattle.bpf_verifier.specs.Clear.{AreClear}
use Rattle.bpf_verifier.specs.Counting.{IsCounted, weight}
use Rattle.bpf_verifier.specs.Path.{Linked, AreBegun, StandsIn}
use Rattle.bpf_rules.specs.Covers.{IsSetting}
use Rattle.bpf_verifier.specs.Safety.{LeadsSafely, IsExplored, AreSafe}
use Rattle.bpf_verifier.specs.Traced.{IsTraced}
use Rattle.bpf_verifier.specs.Walked.{LeadsBySlots, IsWalked, AreWalked}
use Rattle.bpf_plain.specs.Walks.{IsPlain}
use Rattle.bpf_verifier.proofs.exploration.observed_budget.Given as goal

abbrev pub invariant-visit : goal.invariant-visit
invariant-visit l = record {
  counted : IsCounted l.exploration.path l.exploration.after l.exploration.finished l.exploration.visits;
  paid : weight l.exploration.path l.exploration.after ≤ l.exploration.visits;
  traced : IsTraced l.program l.exploration.path l.exploration.after l.current;
  stands : StandsIn l.program.slots l.current;
  begun : AreBegun l.program.slots l.exploration.path;
  path : (p : Setting) → IsSetting l.program p → Linked (LeadsSafely p) (IsExplored p) l.exploration.path l.exploration.after entry_view l.current;
  safe : (p : Setting) → IsSetting l.program p → AreSafe p l.exploration.finished;
  walks : IsPlain l.program.slots → Linked (LeadsBySlots l.program.slots) (IsWalked l.program.slots) l.exploration.path l.exploration.after entry_view l.current;
  walked : IsPlain l.program.slots → AreWalked l.program.slots l.exploration.finished;
  clear : IsClear l.program entry_view l.fn.limit →
      (m n : ℕ) × IsClear l.program l.current m × AreClear l.program l.exploration.path n × (l.exploration.visits + (m + n) ≤ l.fn.limit);
  states : l.exploration.visits ≤ l.fn.limit;
  most : l.work.most ≡ l.initial.work.most;
  examined : l.work.examined ≡ l.initial.work.examined + l.exploration.visits;
  remade : l.work.remade + 4194304 * length l.exploration.path ≤ l.initial.work.remade + 4194304 * l.exploration.visits;
  units : l.work.units + 563 * l.initial.work.remade ≤ l.initial.work.units + 36979 * l.exploration.visits + 563 * l.work.remade;
}

abbrev pub decreases-visit : goal.decreases-visit
decreases-visit l = l.most - l.exploration.visits
