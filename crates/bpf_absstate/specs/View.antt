-- An abstract state as contracts see it, and its changes.
use Rattle.std.specs.Prelude.{ℕ, ◌-◌, max, List, [], ◌∷◌, ◌++◌, length, map, take, replicate, None, slice_index_or, slice_set}
use Rattle.bpf_absnum.specs.Number.{num_single}
use Rattle.bpf_absval.specs.declared.value.AbsRegion.TheVariants as place
use Rattle.bpf_absval.specs.declared.value.AbsVal.{AbsVal}
use Rattle.bpf_absval.specs.declared.value.AbsVal.TheVariants as abs
use Rattle.bpf_absval.specs.declared.slot.AbsSlot.{AbsSlot}
use Rattle.bpf_absval.specs.declared.slot.AbsSlot.TheVariants as slot
use Rattle.bpf_absval.specs.declared.room.Room.{Room}
use Rattle.bpf_absval.specs.Rooms.{raised, rooms_without}
use Rattle.bpf_absval.specs.Unlabelled.{unlabelled, slot_unlabelled}
use Rattle.bpf_absstate.specs.declared.frames.CallFrame.{CallFrame}

-- The slot, what R0 to R10 may hold, the call frames (the main function's first), the known least length of the
-- received frame, and the bytes known to follow labels.
pub record View : Type 0 where
  pub pc : ℕ
  pub registers : List AbsVal
  pub frames : List CallFrame
  pub least : ℕ
  pub rooms : List Room

-- what a register may hold
abbrev pub register : View → ℕ → AbsVal
register a r = slice_index_or a.registers r abs.Unset

-- 64 unset slots
abbrev pub empty_stack : List AbsSlot
empty_stack = replicate 64 slot.Unset

-- the main function's call frame: it has no caller
abbrev pub main_frame : CallFrame
main_frame =
    record {
      return_slot = 0;
      kept = abs.Unset ∷ abs.Unset ∷ abs.Unset ∷ abs.Unset ∷ [];
      stack = empty_stack;
    }

-- the call frame with that number
abbrev pub frame_of : View → ℕ → CallFrame
frame_of a k = slice_index_or a.frames k main_frame

-- the stack of that call frame
abbrev pub stack_of : View → ℕ → List AbsSlot
stack_of a k = (frame_of a k).stack

-- the end of the stack with that number, to which R10 points
abbrev pub stack_end : ℕ → AbsVal
stack_end k = abs.Pointer (place.Stack k) (num_single 512)

-- R1 points to the frame's start, R2 is the frame's end, R3 points to the context, R10 to the end of the stack; all
-- others are unset
abbrev pub entry_registers : List AbsVal
entry_registers =
    abs.Unset ∷ abs.Frame (num_single 0) None ∷ abs.FrameEnd
    ∷ abs.Pointer place.Context (num_single 0) ∷ abs.Unset ∷
    abs.Unset ∷ abs.Unset ∷ abs.Unset ∷ abs.Unset ∷ abs.Unset ∷ stack_end 0 ∷ []

-- the state at the start of a run
abbrev pub entry_view : View
entry_view =
    record { pc = 0; registers = entry_registers; frames = main_frame ∷ []; least = 0; rooms = [] }

-- at another slot
abbrev pub at_slot : View → ℕ → View
at_slot a pc = record a { pc = pc }

-- a register has another value
abbrev pub with_register : View → ℕ → AbsVal → View
with_register a r v = record a { registers = slice_set a.registers r v }

-- slot i of the stack of call frame k has another value
abbrev pub with_frame_slot : List CallFrame → ℕ → ℕ → AbsSlot → List CallFrame
with_frame_slot fs k i s =
    slice_set fs k (record (slice_index_or fs k main_frame) {
      stack = slice_set (slice_index_or fs k main_frame).stack i s;
    })

-- slot i of stack k has another value
abbrev pub with_slot : View → ℕ → ℕ → AbsSlot → View
with_slot a k i s = record a { frames = with_frame_slot a.frames k i s }

-- the frame has at least n bytes
abbrev pub with_least : View → ℕ → View
with_least a n = record a { least = max a.least n }

-- at least n bytes follow the label's position
abbrev pub with_room : View → ℕ → ℕ → View
with_room a label n = record a { rooms = raised a.rooms label n }

-- ---- a label is forgotten: no value has it, and it has no room

-- in a call frame, in what its caller keeps and in its stack
abbrev pub frame_unlabelled : ℕ → CallFrame → CallFrame
frame_unlabelled label f =
    record f { kept = map (unlabelled label) f.kept; stack = map (slot_unlabelled label) f.stack }

-- in the registers, the call frames and the rooms
abbrev pub without_label : View → ℕ → View
without_label a label =
    record a {
      registers = map (unlabelled label) a.registers;
      frames = map (frame_unlabelled label) a.frames;
      rooms = rooms_without label a.rooms;
    }

-- ---- calls (RFC 9669 section 4.3.2)

-- the callee has R1 to R5 and its own stack frame
abbrev pub callee_registers : List AbsVal → ℕ → List AbsVal
callee_registers rs depth =
    slice_set (slice_set (slice_set (slice_set
    (slice_set (slice_set rs 0 abs.Unset) 6 abs.Unset) 7 abs.Unset) 8 abs.Unset) 9 abs.Unset)
    10 (stack_end depth)

-- R6 to R9
abbrev pub kept_of : List AbsVal → List AbsVal
kept_of rs =
    slice_index_or rs 6 abs.Unset ∷ slice_index_or rs 7 abs.Unset ∷ slice_index_or rs 8 abs.Unset
    ∷ slice_index_or rs 9 abs.Unset ∷ []

-- what the caller keeps
abbrev pub kept_registers : View → List AbsVal
kept_registers a = kept_of a.registers

-- the function at slot `to` is called, and returns to `back`
abbrev pub called : View → ℕ → ℕ → View
called a to back =
    record a {
      pc = to;
      registers = callee_registers a.registers (length a.frames);
      frames = a.frames
          ++ record { return_slot = back; kept = kept_registers a; stack = empty_stack } ∷ [];
    }

-- after a call R1 to R5 are unset
abbrev pub without_arguments : List AbsVal → List AbsVal
without_arguments rs =
    slice_set (slice_set (slice_set (slice_set (slice_set rs 1 abs.Unset) 2 abs.Unset) 3 abs.Unset)
    4 abs.Unset) 5 abs.Unset

-- after a return the caller has its R6 to R10, and R0
abbrev pub caller_registers : List AbsVal → List AbsVal → ℕ → List AbsVal
caller_registers rs kept depth =
    slice_set (slice_set (slice_set (slice_set (slice_set (without_arguments rs) 6
    (slice_index_or kept 0 abs.Unset)) 7 (slice_index_or kept 1 abs.Unset))
    8 (slice_index_or kept 2 abs.Unset)) 9 (slice_index_or kept 3 abs.Unset))
    10 (stack_end (depth - 1))

-- the newest function has returned to its caller
abbrev pub returned : View → View
returned a =
    let depth = length a.frames - 1 in let f = frame_of a depth in
    record a {
      pc = f.return_slot;
      registers = caller_registers a.registers f.kept depth;
      frames = take depth a.frames;
    }
