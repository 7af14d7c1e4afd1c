-- Which states of a run an abstract state contains.
use Rattle.std.specs.Prelude.{ℕ, ◌≡◌, ◌<◌, ◌≤◌, ◌+◌, ◌-◌, List, [], ◌∷◌, length, drop, slice_index_or}
use Rattle.bpf_regions.specs.declared.memory.Value.{Value}
use Rattle.bpf_regions.specs.declared.memory.Value.TheVariants as value
use Rattle.bpf_regions.specs.declared.memory.Region.TheVariants as region
use Rattle.bpf_model.specs.declared.StackFrame.{StackFrame}
use Rattle.bpf_model.specs.declared.Caller.{Caller}
use Rattle.bpf_model.specs.State.{Setting, State, reg}
use Rattle.bpf_absval.specs.declared.value.AbsVal.{AbsVal}
use Rattle.bpf_absval.specs.declared.slot.AbsSlot.TheVariants as slot
use Rattle.bpf_absval.specs.declared.room.Room.{Room}
use Rattle.bpf_absval.specs.Meaning.{IsStackFrame, Labels, Holds, SlotHolds}
use Rattle.bpf_absstate.specs.declared.frames.CallFrame.{CallFrame}
use Rattle.bpf_absstate.specs.View.{View}

-- each value is one that the abstract one at its index contains
unfoldable pub ValuesHold : Labels → List Room → List AbsVal → List Value → Type 0
ValuesHold e rooms [] [] = Unit {0}
ValuesHold e rooms [] (v ∷ vs) = ⊥
ValuesHold e rooms (a ∷ more) [] = ⊥
ValuesHold e rooms (a ∷ more) (v ∷ vs) = Holds e rooms a v × ValuesHold e rooms more vs

-- each slot holds what the abstract one at its index says
pub record StackHolds
    (e : Labels) (rooms : List Room) (a : CallFrame) (f : StackFrame) : Type 0 where
  pub frame : IsStackFrame f
  pub all : length a.stack ≡ 64
  pub slots : (i : ℕ) → i < 64 → SlotHolds e rooms (slice_index_or a.stack i slot.Unset) f i

-- there are as many live stack frames as call frames, and each holds what its call frame says
unfoldable pub StacksHold : Labels → List Room → List CallFrame → List StackFrame → Type 0
StacksHold e rooms [] [] = Unit {0}
StacksHold e rooms [] (f ∷ fs) = ⊥
StacksHold e rooms (a ∷ more) [] = ⊥
StacksHold e rooms (a ∷ more) (f ∷ fs) = StackHolds e rooms a f × StacksHold e rooms more fs

-- the caller, of stack frame k, waits for the function of this call frame
pub record CallerHolds
    (e : Labels) (rooms : List Room) (k : ℕ) (a : CallFrame) (c : Caller) : Type 0 where
  pub slot : c.slot ≡ a.return_slot
  pub kept : ValuesHold e rooms a.kept (c.r6 ∷ c.r7 ∷ c.r8 ∷ c.r9 ∷ [])
  pub r10 : c.r10 ≡ value.Pointer (region.Stack k) 512

-- there are as many callers as call frames, the first of stack frame k, and each keeps what its call frame says
unfoldable pub CallersHold : Labels → List Room → ℕ → List CallFrame → List Caller → Type 0
CallersHold e rooms k [] [] = Unit {0}
CallersHold e rooms k [] (c ∷ cs) = ⊥
CallersHold e rooms k (a ∷ more) [] = ⊥
CallersHold e rooms k (a ∷ more) (c ∷ cs) =
    CallerHolds e rooms k a c × CallersHold e rooms (k + 1) more cs

-- With these positions of the labels, the state is as the abstract one says. R10 always points to the end of the newest
-- stack frame.
pub record HoldsIn (e : Labels) (a : View) (s : State) : Type 0 where
  pub pc : s.pc ≡ a.pc
  pub registers : ValuesHold e a.rooms a.registers s.regs
  pub count : length a.registers ≡ 11
  pub pointer : reg s 10 ≡ value.Pointer (region.Stack (length s.stack - 1)) 512
  pub stacks : StacksHold e a.rooms a.frames s.stack
  pub callers : CallersHold e a.rooms 0 (drop 1 a.frames) s.callers
  pub some : 1 ≤ length a.frames
  pub least : a.least ≤ length e.setting.frame

-- for some positions of the labels it is
pub record Contains (p : Setting) (a : View) (s : State) : Type 0 where
  pub base : ℕ → ℕ
  pub holds : HoldsIn (record { setting = p; base = base }) a s
