use Rattle.std.proofs.Common.{IfSome, ◌≡◌, ◌≤◌, ◌-◌, ◌+◌, [], ℕ, List, ◌⊎◌, inl, inr, length, refl, sym, ap, subst, arith}
use Rattle.std.specs.List.{All}
use Rattle.std.proofs.lemmas.List.Elements.{All-nil}
use Rattle.bpf_model.specs.Run.{setting}
use Rattle.bpf_model.specs.State.{entry}
use Rattle.bpf_absstate.specs.View.{View, entry_view}
use Rattle.bpf_decode.specs.Program.{Code}
use Rattle.bpf_plain.specs.Clear.{IsClear}
use Rattle.bpf_prune.specs.Spending.{Tally}
use Rattle.bpf_rules.specs.declared.fault.Fault.{Fault}
use Rattle.bpf_verifier.specs.Causes.{IsFaulty, IsStopped, IsDue, ByMemory, ByRule, ByWork}
use Rattle.bpf_verifier.specs.Spent.{IsMemoryOrPassed}
use Rattle.bpf_verifier.specs.declared.refusal.Refusal.{Refusal}
use Rattle.bpf_prune.specs.declared.kept.Entry.{Entry}
use Rattle.bpf_verifier.specs.declared.frame.Frame.{Frame}
use Rattle.bpf_rules.specs.Covers.{IsSetting}
use Rattle.bpf_plain.specs.Paths.{Reaches}
use Rattle.bpf_verifier.specs.Path.{StandsIn}
use Rattle.bpf_verifier.specs.Safety.{LeadsSafely, IsExplored, AllSafe}
use Rattle.bpf_verifier.specs.Traced.{LeadsExactly, IsOpened}
use Rattle.bpf_verifier.specs.Walked.{LeadsBySlots, IsWalked}
use Rattle.bpf_verifier.specs.Counting.{weight}
use Rattle.bpf_absstate.proofs.Kept.{entry_contains}
use Rattle.bpf_model.proofs.Within.{Safe-from_within}
use Rattle.bpf_plain.proofs.Graph.{reaches_walk}
use Rattle.bpf_plain.proofs.Standing.{entry_stands}
use Rattle.bpf_verifier.proofs.Counts.{weight_empty}
use Rattle.bpf_verifier.proofs.Explored as explored
use Rattle.bpf_verifier.proofs.Tracing.{leads_none}
use Rattle.bpf_verifier.proofs.Walking as walking
use Rattle.bpf_verifier.proofs.Clears.{AreClear-none, clear_some, not_refused}
use Rattle.bpf_verifier.proofs.Paths.{Linked-empty}
use Rattle.bpf_verifier.proofs.Tables.{none}
use Rattle.bpf_verifier.proofs.exploration.observed_budget.Goals as goal

pub visit-init : goal.visit-init
visit-init c =
    let fs : List Frame = c.args.exploration.now.path in
    let after : ℕ = c.args.exploration.now.after in
    let visits : ℕ = c.args.exploration.now.visits in
    let table : List (List Entry) = c.args.exploration.now.finished in
    let slots = c.args.program.now.slots in
    let empty : fs ≡ [] = c.requires.fresh.path in
    let none_after : after ≡ 0 = c.requires.fresh.after in
    let same : c.in_ok-current.current ≡ entry_view = c.in_ok-current.ensures.is in
    record {
      counted = record { frames = subst (All (λ f. f.best + weight fs after ≤ visits)) (sym empty) (All-nil (λ f. f.best + weight fs after ≤ visits)); finished = none (λ e. e.budget + weight fs after ≤ visits) table _ c.requires.fresh.finished };
      paid = let size = weight_empty fs after empty in omega (arith, size, none_after);
      traced = (entry_view, rw same (Linked-empty (LeadsExactly c.args.program.now) (IsOpened c.args.program.now) fs after entry_view empty none_after (leads_none c.args.program.now entry_view)));
      stands = rw same (entry_stands c.args.program.now c.requires.whole, λ plain. refl);
      begun = rw empty (All-nil (λ f. IfSome f.pending (StandsIn slots)));
      path = λ p set. rw same (Linked-empty (LeadsSafely p) (IsExplored p) fs after entry_view empty none_after (explored.stays p entry_view));
      safe = λ p set. none (λ e. AllSafe p e.budget e.state) table _ c.requires.fresh.finished;
      walks = λ plain. rw same (Linked-empty (LeadsBySlots slots) (IsWalked slots) fs after entry_view empty none_after (walking.stays slots entry_view));
      walked = λ plain. none (λ e. Reaches slots e.state.pc e.budget) table _ c.requires.fresh.finished;
      clear = λ clear. (c.args.limit, 0, rw same clear, AreClear-none c.args.program.now fs empty, omega (arith, c.requires.fresh.visits));
      states = omega (arith, c.requires.fresh.visits);
      most = refl;
      examined = omega (arith, c.requires.fresh.visits);
      remade = let none : length fs ≡ 0 = ap length empty in omega (arith, none, c.requires.fresh.visits);
      units = omega (arith, c.requires.fresh.visits);
    }

pub visit-preserved : goal.visit-preserved
visit-preserved c =
    let h = c.visit.invariant in
    record {
      counted = c.in-Ok-Onward.ensures.stepped.counted;
      paid = (rw c.in-Ok-Onward.field-0-is at c.in-Ok-Onward.ensures.stepped).paid;
      traced = (rw c.in-Ok-Onward.field-0-is at c.in-Ok-Onward.ensures.stepped).traced;
      stands = ((rw c.in-Ok-Onward.field-0-is at c.in-Ok-Onward.ensures.stepped).begun h.begun).1;
      begun = (c.in-Ok-Onward.ensures.stepped.begun h.begun).0;
      path = λ p set. ((rw c.in-Ok-Onward.field-0-is at c.in-Ok-Onward.ensures.stepped).safe p entry_view set (h.path p set, h.safe p set)).0;
      safe = λ p set. (c.in-Ok-Onward.ensures.stepped.safe p entry_view set (h.path p set, h.safe p set)).1;
      walks = λ plain. ((rw c.in-Ok-Onward.field-0-is at c.in-Ok-Onward.ensures.stepped).walked entry_view plain (h.walks plain, h.walked plain)).0;
      walked = λ plain. (c.in-Ok-Onward.ensures.stepped.walked entry_view plain (h.walks plain, h.walked plain)).1;
      clear = λ clear.
          let k = h.clear clear in
          let left : ℕ = c.args.limit - (c.visit.exploration.visits + 1) in
          let r = (rw c.in-Ok-Onward.field-0-is at c.in-Ok-Onward.ensures.stepped).clear k.0 k.1 left k.2 k.3 (omega (arith, k.4, c.visit-test.true, c.states-most.ensures.value)) in
          (r.0, r.1, r.2, r.3, omega (arith, r.4, c.in-Ok-Onward.ensures.visits, c.visit-test.true, c.states-most.ensures.value));
      states = omega (arith, c.visit-test.true, c.states-most.ensures.value, c.in-Ok-Onward.ensures.visits);
      most = omega (arith, h.most, c.in-Ok.ensures.most, c.in-Ok-Onward.ensures.most);
      examined = omega (arith, h.examined, c.in-Ok.ensures.examined, c.in-Ok-Onward.ensures.examined, c.in-Ok-Onward.ensures.visits);
      remade = omega (arith, h.remade, c.in-Ok.ensures.remade, c.in-Ok-Onward.ensures.remade, c.in-Ok-Onward.ensures.visits);
      units = omega (arith, h.units, c.in-Ok.ensures.remade, c.in-Ok.ensures.few, c.in-Ok-Onward.ensures.units, c.in-Ok-Onward.ensures.visits);
    }

pub returns-in-Ok-Over-clause-safe : goal.returns-in-Ok-Over-clause-safe
returns-in-Ok-Over-clause-safe c =
    Safe-from_within c.args.program.now.slots c.args.program.now.shapes c.in-Ok-Over.budget (λ frame context short long bytes bytes2.
    let p = setting c.args.program.now.slots c.args.program.now.shapes frame context in
    let set : IsSetting c.args.program.now p = record { code = refl; shapes = refl; maps = c.requires.shapes; frame = short; context = long; frame_bytes = bytes; context_bytes = bytes2 } in
    let h = c.visit.invariant in
    ((rw c.in-Ok-Over.field-0-is at c.in-Ok-Over.ensures.stepped).safe p entry_view set (h.path p set, h.safe p set)).0 entry (entry_contains p))

pub returns-in-Ok-Over-clause-walk : goal.returns-in-Ok-Over-clause-walk
returns-in-Ok-Over-clause-walk c = λ plain.
    let h = c.visit.invariant in
    let r = ((rw c.in-Ok-Over.field-0-is at c.in-Ok-Over.ensures.stepped).walked entry_view plain (h.walks plain, h.walked plain)).0 in
    reaches_walk c.args.program.now.slots c.in-Ok-Over.budget r

pub returns-in-Ok-Over-clause-earned : goal.returns-in-Ok-Over-clause-earned
returns-in-Ok-Over-clause-earned c =
    let paid = (rw c.in-Ok-Over.field-0-is at c.in-Ok-Over.ensures.stepped).paid in
    omega (arith, paid, c.visit.invariant.examined, c.in-Ok.ensures.examined, c.in-Ok-Over.ensures.examined, c.in-Ok-Over.ensures.visits)

pub returns-clause-clear : goal.returns-clause-clear
returns-clause-clear c = λ clear.
    let k = c.visit.invariant.clear clear in
    let some = clear_some c.args.program.now c.visit.current k.0 k.2 in
    absurd (omega (arith, some, k.4, c.visit-test.false, c.states-most.ensures.value))

-- a clear state has no fault
only_memory : (c : Code) (a : View) (n : ℕ) (e : Fault) (w : Tally) → IsClear c a n → IsStopped e w ⊎ IsFaulty c a e → IsMemoryOrPassed e w
only_memory c a n e w clear (inl (inl memory)) = inl memory
only_memory c a n e w clear (inl (inr passed)) = inr passed.1
only_memory c a n e w clear (inr h) = absurd (not_refused c a n h.insn e h.at h.found clear)

caused : (c : Code) (states : ℕ) (old new : Tally) (a : View) (e : Refusal) → a.pc ≡ e.pc → IsStopped e.fault new ⊎ IsFaulty c a e.fault → IsDue c states old new e
caused c states old new a e at (inl (inl memory)) = ByMemory memory
caused c states old new a e at (inl (inr passed)) = ByWork passed.0 passed.1
caused c states old new a e at (inr h) = ByRule a at h

pub returns-in-Err-clause-clear : goal.returns-in-Err-clause-clear
returns-in-Err-clause-clear c = λ clear.
    let k = c.visit.invariant.clear clear in
    only_memory c.args.program.now c.visit.current k.0 _ _ k.2 c.in-Err.ensures.refuses

pub returns-in-Err-clause-due : goal.returns-in-Err-clause-due
returns-in-Err-clause-due c =
    let e : Refusal = record { fault = c.in-Err.fault; pc = c.pc-pc.result } in
    caused c.args.program.now c.args.limit c.args.work.now _ c.visit.current e (sym c.pc-pc.ensures.is) c.in-Err.ensures.refuses
