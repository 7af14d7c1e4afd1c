-- Soundness of the operations on abstract states: what a state does, an abstract state that contains it may do as well.
use Rattle.std.specs.Prelude.{ℕ, ◌≡◌, ◌≢◌, ◌<◌, ◌≤◌, ◌+◌, ◌-◌, ◌*◌, true, List, [], ◌∷◌, ◌++◌, length, take, Some, None, slice_get, slice_set, slice_index_or}
use Rattle.bpf_regions.specs.declared.memory.Value.{Value}
use Rattle.bpf_regions.specs.declared.memory.Value.TheVariants as value
use Rattle.bpf_model.specs.declared.StackFrame.{StackFrame}
use Rattle.bpf_model.specs.declared.Caller.{Caller}
use Rattle.bpf_model.specs.State.{Setting, State, entry, reg, goto, empty_frame}
use Rattle.bpf_model.specs.Memory.{frame_of as stack_frame, with_frame}
use Rattle.bpf_model.specs.Step.{callee_regs, caller_of, caller_regs}
use Rattle.bpf_absval.specs.declared.value.AbsVal.{AbsVal}
use Rattle.bpf_absval.specs.declared.slot.AbsSlot.{AbsSlot}
use Rattle.bpf_absval.specs.Laws.{AgreeApart}
use Rattle.bpf_absval.specs.Meaning.{IsStackFrame, Labels, Holds, SlotHolds}
use Rattle.bpf_absstate.specs.Contains.{Contains, HoldsIn, StackHolds}
use Rattle.bpf_absstate.specs.Inclusion.{state_included}
use Rattle.bpf_absstate.specs.View.{View, register, frame_of, entry_view, at_slot, with_register, with_slot, with_least, with_room, without_label, called, returned}
use Rattle.bpf_absstate.specs.WellFormed.{IsView}

-- each state of an included abstract state is one of the state that includes it
abbrev pub InclusionKeeps : Type 0
InclusionKeeps =
    (p : Setting) (a b : View) (s : State) → IsView b → state_included a b ≡ true →
    Contains p a s → Contains p b s

-- every run begins in the entry
abbrev pub EntryContains : Type 0
EntryContains = (p : Setting) → Contains p entry_view entry

-- ---- reading

-- a register holds what the abstract one allows
abbrev pub RegistersHold : Type 0
RegistersHold =
    (e : Labels) (a : View) (s : State) (r : ℕ) → HoldsIn e a s →
    Holds e a.rooms (register a r) (reg s r)

-- there are as many live stack frames as call frames, and a caller waits for each but the first
pub record SameDepth (a : View) (s : State) : Type 0 where
  pub stacks : length s.stack ≡ length a.frames
  pub callers : length s.callers + 1 ≡ length a.frames

-- a state has as many stack frames and callers as its abstract state says
abbrev pub DepthsAgree : Type 0
DepthsAgree = (e : Labels) (a : View) (s : State) → HoldsIn e a s → SameDepth a s

-- each slot of a live stack frame holds what the abstract one says
abbrev pub StacksAgree : Type 0
StacksAgree =
    (e : Labels) (a : View) (s : State) (k : ℕ) → HoldsIn e a s → k < length a.frames →
    StackHolds e a.rooms (frame_of a k) (stack_frame s k)

-- ---- changes

-- a state stays contained if it goes to another slot
abbrev pub GoingHolds : Type 0
GoingHolds =
    (e : Labels) (a : View) (s : State) (pc : ℕ) → HoldsIn e a s →
    HoldsIn e (at_slot a pc) (goto s pc)

-- so it does if a register other than R10 changes
abbrev pub ChangesHold : Type 0
ChangesHold =
    (e : Labels) (a : View) (s : State) (r : ℕ) (v : AbsVal) (x : Value) → HoldsIn e a s →
    r ≢ 10 → Holds e a.rooms v x →
    HoldsIn e (with_register a r v) (record s { regs = slice_set s.regs r x })

-- and if more is known of a register
abbrev pub RefinementHolds : Type 0
RefinementHolds =
    (e : Labels) (a : View) (s : State) (r : ℕ) (v : AbsVal) → HoldsIn e a s →
    Holds e a.rooms v (reg s r) → HoldsIn e (with_register a r v) s

-- so it does if a live stack frame changes to one that holds what its new slots say
abbrev pub StackChangesHold : Type 0
StackChangesHold =
    (e : Labels) (a : View) (s : State) (k : ℕ) (stack : List AbsSlot) (f : StackFrame) →
    HoldsIn e a s → StackHolds e a.rooms (record (frame_of a k) { stack = stack }) f →
    HoldsIn e (record a { frames = slice_set a.frames k (record (frame_of a k) { stack = stack }) })
    (with_frame s k f)

-- a slot and its bytes are unchanged
pub record SameSlot (f g : StackFrame) (i : ℕ) : Type 0 where
  pub spill : slice_index_or g.spills i value.Unset ≡ slice_index_or f.spills i value.Unset
  pub bytes : (j : ℕ) → j < 8 →
      slice_index_or g.bytes (8 * i + j) None ≡ slice_index_or f.bytes (8 * i + j) None

-- a state stays contained if one slot of a live stack frame changes
abbrev pub SlotChangesHold : Type 0
SlotChangesHold =
    (e : Labels) (a : View) (s : State) (k i : ℕ) (x : AbsSlot) (f : StackFrame) → HoldsIn e a s →
    k < length a.frames → i < 64 → IsStackFrame f →
    ((j : ℕ) → j < 64 → j ≢ i → SameSlot (stack_frame s k) f j) → SlotHolds e a.rooms x f i →
    HoldsIn e (with_slot a k i x) (with_frame s k f)

-- and if two change, in either order
abbrev pub TwoSlotsHold : Type 0
TwoSlotsHold =
    (e : Labels) (a : View) (s : State) (k i j : ℕ) (x y : AbsSlot) (f : StackFrame) →
    HoldsIn e a s → k < length a.frames → i < 64 → j < 64 → i ≢ j → IsStackFrame f →
    ((l : ℕ) → l < 64 → l ≢ i → l ≢ j → SameSlot (stack_frame s k) f l) →
    SlotHolds e a.rooms x f i → SlotHolds e a.rooms y f j →
    HoldsIn e (with_slot (with_slot a k i x) k j y) (with_frame s k f)

-- ---- calls and returns

-- the state in which the function at slot `to` begins
abbrev pub entered : State → ℕ → State
entered s to =
    record s {
      pc = to;
      regs = callee_regs s.regs (length s.stack);
      stack = s.stack ++ empty_frame ∷ [];
      callers = s.callers ++ caller_of s ∷ [];
    }

-- a state stays contained if it calls a function
abbrev pub CallHolds : Type 0
CallHolds =
    (e : Labels) (a : View) (s : State) (to : ℕ) → HoldsIn e a s →
    HoldsIn e (called a to (a.pc + 1)) (entered s to)

-- the state in which that caller resumes
abbrev pub resumed : State → Caller → State
resumed s c =
    record s {
      pc = c.slot;
      regs = caller_regs s.regs c;
      stack = take (length s.stack - 1) s.stack;
      callers = take (length s.callers - 1) s.callers;
    }

-- and if the newest function returns
abbrev pub ReturnHolds : Type 0
ReturnHolds =
    (e : Labels) (a : View) (s : State) (c : Caller) → HoldsIn e a s →
    slice_get s.callers (length s.callers - 1) ≡ Some c → HoldsIn e (returned a) (resumed s c)

-- ---- what else is known

-- and if a label is forgotten, which may then name another position
abbrev pub ForgettingHolds : Type 0
ForgettingHolds =
    (e d : Labels) (label : ℕ) (a : View) (s : State) → AgreeApart label e d → HoldsIn e a s →
    HoldsIn d (without_label a label) s

-- and if a least length is recorded that the frame has
abbrev pub LeastHolds : Type 0
LeastHolds =
    (e : Labels) (a : View) (s : State) (n : ℕ) → n ≤ length e.setting.frame → HoldsIn e a s →
    HoldsIn e (with_least a n) s

-- and if room is recorded that the frame has after a label
abbrev pub RoomsHold : Type 0
RoomsHold =
    (e : Labels) (a : View) (s : State) (label n : ℕ) → e.base label + n ≤ length e.setting.frame →
    HoldsIn e a s → HoldsIn e (with_room a label n) s
