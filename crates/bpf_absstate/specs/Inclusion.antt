-- When one abstract state is included in another.
use Rattle.std.specs.Prelude.{◌==◌, ◌&&◌, nat_le, List, [], ◌∷◌, Bool, true, false}
use Rattle.bpf_absval.specs.declared.value.AbsVal.{AbsVal}
use Rattle.bpf_absval.specs.declared.room.Room.{Room}
use Rattle.bpf_absval.specs.Inclusion.{value_included}
use Rattle.bpf_stack.specs.Included.{slots_included}
use Rattle.bpf_absstate.specs.declared.frames.CallFrame.{CallFrame}
use Rattle.bpf_absstate.specs.View.{View}

-- both are of equal length, and each value is included in that at its index
unfoldable pub values_included : List Room → List Room → List AbsVal → List AbsVal → Bool
values_included rooms others [] [] = true
values_included rooms others [] (b ∷ bs) = false
values_included rooms others (a ∷ more) [] = false
values_included rooms others (a ∷ more) (b ∷ bs) =
    value_included rooms others a b && values_included rooms others more bs

-- the same return slot; the kept registers and the stack are included in those of the other
abbrev pub frame_included : List Room → List Room → CallFrame → CallFrame → Bool
frame_included rooms others f g =
    f.return_slot == g.return_slot && values_included rooms others f.kept g.kept
    && slots_included rooms others f.stack g.stack

-- as many call frames, each included in that at its index
unfoldable pub frames_included : List Room → List Room → List CallFrame → List CallFrame → Bool
frames_included rooms others [] [] = true
frames_included rooms others [] (g ∷ gs) = false
frames_included rooms others (f ∷ fs) [] = false
frames_included rooms others (f ∷ fs) (g ∷ gs) =
    frame_included rooms others f g && frames_included rooms others fs gs

-- both are at one slot with the same call chain; each value is included in the other's, and the least length isn't
-- below the other's
abbrev pub state_included : View → View → Bool
state_included a b =
    a.pc == b.pc && nat_le b.least a.least
    && values_included a.rooms b.rooms a.registers b.registers &&
    frames_included a.rooms b.rooms a.frames b.frames
