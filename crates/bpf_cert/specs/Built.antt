-- How the state of an entry is built, call frame by call frame.
use Rattle.std.specs.Prelude.{ℕ, ◌-◌, List, [], ◌∷◌, ◌++◌, length, drop, slice_set, replicate}
use Rattle.bpf_absval.specs.declared.slot.AbsSlot.{AbsSlot}
use Rattle.bpf_absval.specs.declared.value.AbsVal.{AbsVal}
use Rattle.bpf_absval.specs.declared.value.AbsVal.TheVariants.{Unset}
use Rattle.bpf_absstate.specs.View.{View, entry_view, frame_of, main_frame, stack_end}
use Rattle.bpf_cert_format.specs.declared.frame.Frame.{Frame}
use Rattle.bpf_cert.specs.States.{frames_after, newest_registers}

-- other values in R0 to R9
abbrev pub with_values : View → List AbsVal → View
with_values a values = record a { registers = values ++ drop 10 a.registers }

-- the state in which nothing is known
abbrev pub blank_view : View
blank_view = with_values entry_view (replicate 10 Unset)

-- another stack in call frame k
abbrev pub with_stack : View → ℕ → List AbsSlot → View
with_stack a k stack = record a { frames = slice_set a.frames k (record (frame_of a k) { stack = stack }) }

-- the registers and the stack of a frame
abbrev pub filled : View → ℕ → Frame → View
filled a k f = with_stack (with_values a f.registers) k f.stack

-- a state with these call frames, of which nothing else is known
abbrev pub built : List Frame → View
built fs =
    record entry_view {
      registers = newest_registers fs ++ stack_end (length fs - 1) ∷ [];
      frames = frames_after main_frame.kept fs;
    }
