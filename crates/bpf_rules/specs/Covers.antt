-- When the successors cover whatever comes next.
use Rattle.std.specs.Prelude.{◌≡◌, ◌≤◌, ◌⊎◌, length, Ok}
use Rattle.bpf_insn.specs.declared.insn.Insn.{Insn}
use Rattle.bpf_regions.specs.Maps.{AreShapes}
use Rattle.bpf_decode.specs.Program.{Code, Holds, IsWhole}
use Rattle.bpf_model.specs.State.{Setting, State}
use Rattle.bpf_model.specs.Step.{next}
use Rattle.bpf_model.specs.Run.{AreBytes, IsFine}
use Rattle.bpf_absstate.specs.Contains.{Contains}
use Rattle.bpf_absstate.specs.View.{View}
use Rattle.bpf_rules.specs.declared.ways.Ways.{Ways}
use Rattle.bpf_rules.specs.declared.ways.Ways.TheVariants.{Nowhere, One, Two}
use Rattle.bpf_rules.specs.Examined.{examined}

-- a setting with the program and maps of the code, on a frame and a context
pub record IsSetting (c : Code) (p : Setting) : Type 0 where
  pub code : p.code ≡ c.slots
  pub shapes : p.shapes ≡ c.shapes
  pub maps : AreShapes p.shapes
  pub frame : length p.frame ≤ 2400
  pub context : length p.context ≡ 32
  pub frame_bytes : AreBytes p.frame
  pub context_bytes : AreBytes p.context

-- a state of one of the successors
abbrev pub InWays : Setting → Ways → State → Type 0
InWays p Nowhere s = ⊥
InWays p (One x) s = Contains p x s
InWays p (Two x y) s = Contains p x s ⊎ Contains p y s

-- after a state of a no fault comes next, and each next state is in one of the successors
abbrev pub Covers : Setting → View → Ways → Type 0
Covers p a w = (s : State) → Contains p a s → IsFine p.shapes (next p s) (InWays p w)

-- if this instruction is at the state's slot, the successors that its examination gives cover whatever comes next
abbrev pub InsnCovers : Insn → Type 0
InsnCovers i =
    (c : Code) (p : Setting) (a : View) (w : Ways) → IsWhole c → IsSetting c p →
    Holds c.slots a.pc i → examined c.shapes i a ≡ Ok w →
    Covers p a w
