-- Well-formed abstract states.
use Rattle.std.specs.Prelude.{ℕ, ◌≡◌, ◌≤◌, length, All}
use Rattle.bpf_absval.specs.WellFormed.{IsVal, IsSlot}
use Rattle.bpf_absstate.specs.declared.frames.CallFrame.{CallFrame}
use Rattle.bpf_absstate.specs.View.{View}

-- a call frame: four registers of the caller, 64 slots
pub record IsFrame (f : CallFrame) : Type 0 where
  pub kept : length f.kept ≡ 4
  pub values : All IsVal f.kept
  pub stack : length f.stack ≡ 64
  pub slots : All IsSlot f.stack

-- eleven registers, one to eight call frames
pub record IsView (a : View) : Type 0 where
  pub registers : length a.registers ≡ 11
  pub values : All IsVal a.registers
  pub some : 1 ≤ length a.frames
  pub few : length a.frames ≤ 8
  pub frames : All IsFrame a.frames

-- a state with that many call frames
pub record IsState (depth : ℕ) (a : View) : Type 0 where
  pub view : IsView a
  pub count : depth ≡ length a.frames
