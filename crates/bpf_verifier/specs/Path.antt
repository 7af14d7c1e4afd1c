-- The path being explored, from the start to the state to examine next.
use Rattle.std.specs.Prelude.{◌≡◌, ℕ, List, [], ◌∷◌, Option, Some, None, IfSome}
use Rattle.std.specs.List.{All}
use Rattle.bpf_insn.specs.declared.insn.Insn.{Insn}
use Rattle.bpf_plain.specs.Standing.{Stands, IsMain}
use Rattle.bpf_plain.specs.Walks.{IsPlain}
use Rattle.bpf_absstate.specs.View.{View}
use Rattle.bpf_prune.specs.Covering.{with_entry}
use Rattle.bpf_prune.specs.declared.kept.Entry.{Entry}
use Rattle.bpf_verifier.specs.declared.frame.Frame.{Frame}
use Rattle.bpf_verifier.specs.declared.exploration.Unwound.{Unwound}
use Rattle.bpf_verifier.specs.declared.exploration.Unwound.TheVariants.{Onward, Over}

-- how a number of states with one successor lead from one state to another
abbrev pub Leads : Type 1
Leads = ℕ → View → View → Type 0

-- how a frame relates to its own state and to the successor being explored
abbrev pub Opens : Type 1
Opens = Frame → View → View → Type 0

-- the path leads from the start to the state to examine next: to each frame by states with one successor, from it by
-- the successor being explored, and from the newest frame by `after` states with one successor
unfoldable pub Linked : Leads → Opens → List Frame → ℕ → View → View → Type 0
Linked L R [] after start current = L after start current
Linked L R (f ∷ fs) after start current =
    (own : View) × L f.before start own × IfSome f.state (λ a. a ≡ own) × (child : View) × R f own child × Linked L R fs after child current

-- the state is at an instruction, in a plain program in the main function
abbrev pub StandsIn : List (Option Insn) → View → Type 0
StandsIn slots a = Stands slots a × (IsPlain slots → IsMain a)

-- the pending successors are at instructions
abbrev pub AreBegun : List (Option Insn) → List Frame → Type 0
AreBegun slots fs = All (λ f. IfSome f.pending (StandsIn slots)) fs

-- so is the state explored next
abbrev pub IsBegun : List (Option Insn) → Unwound → Type 0
IsBegun slots (Onward a) = StandsIn slots a
IsBegun slots (Over b) = Unit {0}

-- a finished state, if there is one, is kept with its budget
abbrev pub IsKept : List (List Entry) → List (List Entry) → Option View → ℕ → Type 0
IsKept old new None budget = new ≡ old
IsKept old new (Some a) budget = new ≡ with_entry old (record { state = a; budget = budget })
