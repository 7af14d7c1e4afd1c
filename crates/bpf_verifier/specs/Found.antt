-- What an exploration has found so far.
use Rattle.std.specs.Prelude.{◌≡◌, ◌≤◌, ◌+◌, ◌^◌, ℕ, List, [], length, replicate, Option}
use Rattle.bpf_insn.specs.declared.insn.Insn.{Insn}
use Rattle.bpf_decode.specs.Program.{Code, IsWhole}
use Rattle.bpf_model.specs.State.{Setting}
use Rattle.bpf_absstate.specs.View.{View}
use Rattle.bpf_verifier.specs.declared.exploration.Exploration.{Exploration}
use Rattle.bpf_verifier.specs.declared.exploration.Unwound.{Unwound}
use Rattle.bpf_verifier.specs.Clear.{AreClear, IsClearOn}
use Rattle.bpf_verifier.specs.Counting.{IsCounted, IsPaid, weight}
use Rattle.bpf_prune.specs.Keeping.{with_entries}
use Rattle.bpf_verifier.specs.Finishing.{finished_of}
use Rattle.bpf_verifier.specs.Path.{Linked, AreBegun, IsBegun, StandsIn}
use Rattle.bpf_verifier.specs.Safety.{LeadsSafely, IsExplored, AreSafe, IsOngoing}
use Rattle.bpf_verifier.specs.Traced.{IsTraced, HasWays, IsAtTarget}
use Rattle.bpf_verifier.specs.declared.exploration.Unwound.TheVariants.{Onward, Over}
use Rattle.bpf_verifier.specs.Walked.{LeadsBySlots, IsWalked, AreWalked, IsWalkedOn}
use Rattle.bpf_rules.specs.Covers.{IsSetting}
use Rattle.bpf_rules.specs.declared.ways.Ways.{Ways}
use Rattle.bpf_plain.specs.Clear.{IsClear}
use Rattle.bpf_plain.specs.Walks.{IsPlain}

-- the exploration hasn't started
pub record IsFresh (c : Code) (e : Exploration) : Type 0 where
  pub path : e.path ≡ []
  pub after : e.after ≡ 0
  pub finished : e.finished ≡ replicate (length c.slots) []
  pub visits : e.visits ≡ 0

-- the finished states are the same as if each state of the path, up to the newest pending successor, had been kept when it
-- was finished
abbrev pub HasFinished : ℕ → Exploration → Exploration → Type 0
HasFinished done old new = new.finished ≡ with_entries old.finished (finished_of old.path old.after done)

-- the visits bound its budgets
abbrev pub IsCountedSoFar : Exploration → Type 0
IsCountedSoFar e = IsCounted e.path e.after e.finished e.visits

-- so they do after the last step, also the budget it may have found
abbrev pub IsPaidSoFar : Exploration → Unwound → Type 0
IsPaidSoFar e u = IsPaid e.path e.after e.visits u

-- the pending successors are at instructions
abbrev pub IsBegunSoFar : List (Option Insn) → Exploration → Type 0
IsBegunSoFar slots e = AreBegun slots e.path

-- while a is explored, examining each state leads along the path to a
abbrev pub IsTracedSoFar : Code → View → Exploration → Type 0
IsTracedSoFar c a e = IsTraced c e.path e.after a

-- so it is with the state explored next
abbrev pub IsTracedAfter : Code → Exploration → Unwound → Type 0
IsTracedAfter c e (Onward a) = IsTracedSoFar c a e
IsTracedAfter c e (Over b) = Unit {0}

-- while a is explored, the path from the start and the finished states are safe so far
abbrev pub IsSafeSoFar : Setting → View → View → Exploration → Type 0
IsSafeSoFar p start a e = Linked (LeadsSafely p) (IsExplored p) e.path e.after start a × AreSafe p e.finished

-- the exploration from here on is ongoing or over, and finished states are safe
abbrev pub IsSafeAfter : Setting → View → Exploration → Unwound → Type 0
IsSafeAfter p start e u = IsOngoing p e.path e.after start u × AreSafe p e.finished

-- while a is explored, the path from the start and the finished states have paths of slots as long as their budgets
abbrev pub IsWalkedSoFar : List (Option Insn) → View → View → Exploration → Type 0
IsWalkedSoFar slots start a e = Linked (LeadsBySlots slots) (IsWalked slots) e.path e.after start a × AreWalked slots e.finished

-- the exploration from here on is ongoing or over with the length of a path of slots, and finished states have such
-- paths
abbrev pub IsWalkedAfter : List (Option Insn) → View → Exploration → Unwound → Type 0
IsWalkedAfter slots start e u = IsWalkedOn slots e.path e.after start u × AreWalked slots e.finished

-- the pending successors lead to at most n states
abbrev pub IsClearSoFar : Code → ℕ → Exploration → Type 0
IsClearSoFar c n e = AreClear c e.path n

-- they and the state explored next lead to at most n states
abbrev pub IsClearAfter : Code → ℕ → Exploration → Unwound → Type 0
IsClearAfter c n e u = IsClearOn c e.path n u

-- a state is being examined: it comes after the path, and is counted among the visits
pub record IsExamining (c : Code) (own : View) (e : Exploration) : Type 0 where
  pub few : e.visits ≤ 2 ^ 22
  pub traced : IsTracedSoFar c own e
  pub counted : IsCounted e.path (e.after + 1) e.finished e.visits
  pub paid : weight e.path (e.after + 1) ≤ e.visits

-- a state at an instruction has these successors, and is kept if and only if it is at a target slot
pub record IsExamined (c : Code) (own : View) (ways : Ways) (kept : Option View) : Type 0 where
  pub whole : IsWhole c
  pub stands : StandsIn c.slots own
  pub has : HasWays c own ways
  pub state : IsAtTarget c own kept

-- after a step from a state the exploration has found the like of what it had found before, also of the state explored
-- next, or of the budget
pub record HasStepped (c : Code) (own : View) (old new : Exploration) (u : Unwound) : Type 0 where
  pub traced : IsTracedAfter c new u
  pub counted : IsCountedSoFar new
  pub paid : IsPaidSoFar new u
  pub begun : IsBegunSoFar c.slots old → IsBegunSoFar c.slots new × IsBegun c.slots u
  pub safe : (p : Setting) (start : View) → IsSetting c p → IsSafeSoFar p start own old → IsSafeAfter p start new u
  pub walked :
      (start : View) → IsPlain c.slots → IsWalkedSoFar c.slots start own old → IsWalkedAfter c.slots start new u
  pub clear :
      (l m n : ℕ) → IsClear c own l → IsClearSoFar c m old → l + m ≤ n + 1 → IsClearAfter c n new u
