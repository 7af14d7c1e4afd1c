-- Budgets are lengths of paths of slots.
use Rattle.std.specs.Prelude.{ℕ, ◌+◌, List, Option, IfSome}
use Rattle.std.specs.List.{All}
use Rattle.bpf_insn.specs.declared.insn.Insn.{Insn}
use Rattle.bpf_absstate.specs.View.{View}
use Rattle.bpf_prune.specs.declared.kept.Entry.{Entry}
use Rattle.bpf_verifier.specs.declared.frame.Frame.{Frame}
use Rattle.bpf_verifier.specs.declared.exploration.Unwound.{Unwound}
use Rattle.bpf_verifier.specs.declared.exploration.Unwound.TheVariants.{Onward, Over}
use Rattle.bpf_verifier.specs.Path.{Leads, Linked}
use Rattle.bpf_plain.specs.Paths.{Reaches}
use Rattle.bpf_plain.specs.Walks.{Follows}

-- k states with one successor lead from a to b: k slots more precede each path of slots from b
abbrev pub LeadsBySlots : List (Option Insn) → Leads
LeadsBySlots slots k a b = (n : ℕ) → Reaches slots b.pc n → Reaches slots a.pc (n + k)

-- the child and the pending successor follow the slot of the frame's state; from it some path is longer than the best
-- budget so far
pub record IsWalked (slots : List (Option Insn)) (f : Frame) (own child : View) : Type 0 where
  pub follows : Follows slots own.pc child.pc
  pub pending : IfSome f.pending (λ a. Follows slots own.pc a.pc)
  pub best : Reaches slots own.pc (f.best + 1)

-- from the slots of the finished states there are paths as long as their budgets
abbrev pub AreWalked : List (Option Insn) → List (List Entry) → Type 0
AreWalked slots table = All (All (λ e. Reaches slots e.state.pc e.budget)) table

-- the exploration continues at a state, or is over with the length of a path from the start
abbrev pub IsWalkedOn : List (Option Insn) → List Frame → ℕ → View → Unwound → Type 0
IsWalkedOn slots fs after start (Onward a) = Linked (LeadsBySlots slots) (IsWalked slots) fs after start a
IsWalkedOn slots fs after start (Over b) = Reaches slots start.pc b
