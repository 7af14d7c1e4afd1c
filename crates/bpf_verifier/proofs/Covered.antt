-- A state that is included in a finished one has its budget.
use Rattle.std.proofs.Common.{◌≡◌, ℕ, ◌+◌, ◌≤◌, List, Option, true, sym, subst}
use Rattle.std.specs.Prelude.{◌&&◌, ◌==◌, nat_le}
use Rattle.bpf_absstate.specs.Inclusion.{state_included, values_included, frames_included}
use Rattle.std.proofs.lemmas.Bool.{and_parts, eqb-true}
use Rattle.bpf_insn.specs.declared.insn.Insn.{Insn}
use Rattle.bpf_model.specs.State.{Setting}
use Rattle.bpf_model.specs.Run.{SafeWithin}
use Rattle.bpf_absstate.specs.Laws.{InclusionKeeps}
use Rattle.bpf_absstate.specs.View.{View}
use Rattle.bpf_prune.specs.declared.kept.Entry.{Entry}
use Rattle.bpf_prune.specs.Covering.{kept_at, Covers}
use Rattle.bpf_verifier.specs.declared.frame.Frame.{Frame}
use Rattle.bpf_verifier.specs.Counting.{IsCounted, weight}
use Rattle.bpf_verifier.specs.Safety.{AllSafe, AreSafe}
use Rattle.bpf_plain.specs.Paths.{Reaches}
use Rattle.bpf_verifier.specs.Walked.{AreWalked}
use Rattle.bpf_verifier.proofs.Tables.{covering}

pub covered_safe : InclusionKeeps → (p : Setting) (table : List (List Entry)) (a : View) (budget : ℕ) → AreSafe p table → Covers (kept_at table a.pc) a budget → AllSafe p budget a
covered_safe keeps p table a budget safe c s h =
    subst (λ b. SafeWithin p b s) c.budget_is (covering (λ e. AllSafe p e.budget e.state) table a budget safe c s (keeps p a c.entry.state s c.whole c.included h))

pc_same : (a b : View) → state_included a b ≡ true → (a.pc == b.pc) ≡ true
pc_same a b h =
    let values = values_included a.rooms b.rooms a.registers b.registers in
    let first = and_parts (a.pc == b.pc && nat_le b.least a.least && values) (frames_included a.rooms b.rooms a.frames b.frames) h in
    (and_parts (a.pc == b.pc) (nat_le b.least a.least) (and_parts (a.pc == b.pc && nat_le b.least a.least) values first.0).0).0

pub covered_walked : (slots : List (Option Insn)) (table : List (List Entry)) (a : View) (budget : ℕ) → AreWalked slots table → Covers (kept_at table a.pc) a budget → Reaches slots a.pc budget
covered_walked slots table a budget walked c =
    let same : a.pc ≡ c.entry.state.pc = eqb-true a.pc c.entry.state.pc (pc_same a c.entry.state c.included) in
    subst (λ k. Reaches slots k budget) (sym same)
    (subst (Reaches slots c.entry.state.pc) c.budget_is (covering (λ e. Reaches slots e.state.pc e.budget) table a budget walked c))

pub covered_paid : (fs : List Frame) (after : ℕ) (table : List (List Entry)) (a : View) (budget visits : ℕ) → IsCounted fs after table visits → Covers (kept_at table a.pc) a budget →
    budget + weight fs after ≤ visits
covered_paid fs after table a budget visits h c =
    subst (λ b. b + weight fs after ≤ visits) c.budget_is (covering (λ e. e.budget + weight fs after ≤ visits) table a budget h.finished c)
