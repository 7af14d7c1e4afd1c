-- Examining each state of the path again gives the path.
use Rattle.std.specs.Prelude.{◌≡◌, ℕ, zero, suc, List, Option, Some, None, Ok, IfSome}
use Rattle.bpf_insn.specs.declared.insn.Insn.{Insn}
use Rattle.bpf_decode.specs.Program.{Code, Holds, IsTarget}
use Rattle.bpf_rules.specs.declared.ways.Ways.{Ways}
use Rattle.bpf_rules.specs.declared.ways.Ways.TheVariants.{Nowhere, One, Two}
use Rattle.bpf_rules.specs.Examined.{examined}
use Rattle.bpf_absstate.specs.View.{View}
use Rattle.bpf_verifier.specs.declared.frame.Frame.{Frame}
use Rattle.bpf_verifier.specs.declared.fold.Outline.{Outline}
use Rattle.bpf_verifier.specs.Folded.{outline_of}
use Rattle.bpf_verifier.specs.Path.{Leads, Linked}

-- these are the successors of a state
pub record HasWays (c : Code) (a : View) (ways : Ways) : Type 0 where
  pub insn : Insn
  pub at : Holds c.slots a.pc insn
  pub examined : examined c.shapes insn a ≡ Ok ways

-- k states with one successor lead from a to b, each to the next
unfoldable pub LeadsExactly : Code → Leads
LeadsExactly c zero a b = a ≡ b
LeadsExactly c (suc k) a b = (m : View) × HasWays c a (One m) × LeadsExactly c k m b

-- with that successor pending, or none, the exploration is at the child
abbrev pub AreOpen : Option View → View → Ways → Type 0
AreOpen None child Nowhere = ⊥
AreOpen None child (One x) = x ≡ child
AreOpen None child (Two x y) = y ≡ child
AreOpen (Some a) child Nowhere = ⊥
AreOpen (Some a) child (One x) = ⊥
AreOpen (Some a) child (Two x y) = (x ≡ child) × (y ≡ a)

-- a frame keeps its own state if and only if that is at a target slot
pub record IsAtTarget (c : Code) (own : View) (o : Option View) : Type 0 where
  pub there : IsTarget c.slots own.pc → o ≡ Some own
  pub elsewhere : IfSome o (λ a. (a ≡ own) × IsTarget c.slots a.pc)

-- examining a frame's own state gives the frame and the child
pub record IsOpened (c : Code) (f : Frame) (own child : View) : Type 0 where
  pub ways : Ways
  pub has : HasWays c own ways
  pub state : IsAtTarget c own f.state
  pub leads : AreOpen f.pending child ways

-- that outline belongs to a frame that examining the state gives
abbrev pub OpensWith : Code → Outline → View → Type 0
OpensWith c o own = (f : Frame) × (child : View) × IsOpened c f own child × (o ≡ outline_of f)

-- examining each state leads along these frames to a
abbrev pub IsTraced : Code → List Frame → ℕ → View → Type 0
IsTraced c fs after a = (start : View) × Linked (LeadsExactly c) (IsOpened c) fs after start a
