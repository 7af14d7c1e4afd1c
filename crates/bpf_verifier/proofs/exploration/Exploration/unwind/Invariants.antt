use Rattle.std.proofs.Common.{◌≡◌, ◌≤◌, ◌+◌, ◌*◌, ℕ, List, Option, length}
use Rattle.bpf_insn.specs.declared.insn.Insn.{Insn}
use Rattle.bpf_decode.specs.Program.{Code}
use Rattle.bpf_model.specs.State.{Setting}
use Rattle.bpf_absstate.specs.View.{View}
use Rattle.bpf_prune.specs.Keeping.{with_entries}
use Rattle.bpf_verifier.specs.Counting.{weight}
use Rattle.bpf_verifier.specs.Finishing.{finished_of}
use Rattle.bpf_verifier.specs.Found.{IsCountedSoFar, IsBegunSoFar, IsTracedSoFar, IsSafeSoFar, IsWalkedSoFar, IsClearSoFar}
use Rattle.bpf_verifier.specs.Safety.{AllSafe}
use Rattle.bpf_plain.specs.Paths.{Reaches}
use Rattle.bpf_verifier.proofs.exploration.Exploration.unwind.Given as goal

abbrev pub invariant-loop-frame : goal.invariant-loop-frame
invariant-loop-frame l = record {
  visits : l.self.visits ≡ l.initial.self.visits;
  traced : (a : View) × IsTracedSoFar l.program a l.self;
  finished : with_entries l.self.finished (finished_of l.self.path l.self.after l.done) ≡ with_entries l.initial.self.finished (finished_of l.initial.self.path l.initial.self.after l.initial.done);
  counted : IsCountedSoFar l.self;
  paid : l.done + weight l.self.path l.self.after ≤ l.self.visits;
  begun : (slots : List (Option Insn)) → IsBegunSoFar slots l.initial.self → IsBegunSoFar slots l.self;
  safe : (p : Setting) (start a : View) → IsSafeSoFar p start a l.initial.self → AllSafe p l.initial.done a → (now : View) × IsSafeSoFar p start now l.self × AllSafe p l.done now;
  walked : (slots : List (Option Insn)) (start a : View) → IsWalkedSoFar slots start a l.initial.self → Reaches slots a.pc l.initial.done →
      (now : View) × IsWalkedSoFar slots start now l.self × Reaches slots now.pc l.done;
  clear : (c : Code) (n : ℕ) → IsClearSoFar c n l.initial.self → IsClearSoFar c n l.self;
  most : l.work.most ≡ l.initial.work.most;
  examined : l.work.examined ≡ l.initial.work.examined;
  remade : l.work.remade + 4194304 * length l.self.path ≤ l.initial.work.remade + 4194304 * length l.initial.self.path;
  units : l.work.units + 563 * l.initial.work.remade ≤ l.initial.work.units + 563 * l.work.remade;
}

abbrev pub decreases-loop-frame : goal.decreases-loop-frame
decreases-loop-frame l = length l.self.path
