-- Why one abstract state isn't included in another.
use Rattle.std.specs.Prelude.{◌≡◌, ◌==◌, ◌<◌, ◌&&◌, not, nat_le, nat_lt, ℕ, List, length, slice_index_or, Bool, true, false}
use Rattle.bpf_absval.specs.declared.value.AbsVal.{AbsVal}
use Rattle.bpf_absval.specs.declared.value.AbsVal.TheVariants as abs
use Rattle.bpf_absval.specs.declared.slot.AbsSlot.TheVariants as slot
use Rattle.bpf_absval.specs.declared.room.Room.{Room}
use Rattle.bpf_absval.specs.Inclusion.{value_included, slot_included}
use Rattle.bpf_absstate.specs.declared.frames.CallFrame.{CallFrame}
use Rattle.bpf_absstate.specs.declared.frames.Part.{Part}
use Rattle.bpf_absstate.specs.declared.frames.Part.TheVariants as part
use Rattle.bpf_absstate.specs.declared.frames.Place.{Place}
use Rattle.bpf_absstate.specs.declared.state.Difference.{Difference}
use Rattle.bpf_absstate.specs.declared.state.Difference.TheVariants as at
use Rattle.bpf_absstate.specs.View.{View, main_frame, frame_of}

-- the value at an index is included in that of the other list
abbrev pub lies_in_at : List Room → List Room → List AbsVal → List AbsVal → ℕ → Bool
lies_in_at rooms others a b number =
    value_included rooms others (slice_index_or a number abs.Unset)
    (slice_index_or b number abs.Unset)

-- that index is in the first list, whose value there isn't included in the other's
pub record IsValueOutside (rooms others : List Room) (a b : List AbsVal) (number : ℕ) : Type 0 where
  pub within : number < length a
  pub outside : lies_in_at rooms others a b number ≡ false

-- a part of a frame isn't included in the other's: the return slots differ, or a kept register or a slot isn't included
abbrev pub part_outside : List Room → List Room → CallFrame → CallFrame → Part → Bool
part_outside rooms others f g part.Return = not (f.return_slot == g.return_slot)
part_outside rooms others f g (part.Kept number) =
    nat_lt number 4 && not (lies_in_at rooms others f.kept g.kept number)
part_outside rooms others f g (part.Slot index) =
    nat_lt index 64 && not (slot_included rooms others (slice_index_or f.stack index slot.Unset)
    (slice_index_or g.stack index slot.Unset))

-- there is a frame with that number, whose part isn't included in the other's
pub record IsPlaceOutside (rooms others : List Room) (fs gs : List CallFrame) (place : Place)
    : Type 0 where
  pub within : place.frame < length fs
  pub outside : part_outside rooms others (slice_index_or fs place.frame main_frame)
      (slice_index_or gs place.frame main_frame) place.part ≡ true

-- both are at one slot with one depth, and the least length isn't below the other's
abbrev pub stand_together : View → View → Bool
stand_together a b =
    a.pc == b.pc && nat_le b.least a.least && length a.frames == length b.frames

-- that part isn't included in the other's
abbrev pub lies_outside : View → View → Difference → Bool
lies_outside a b at.Apart = not (stand_together a b)
lies_outside a b (at.Register number) =
    nat_lt number 11 && not (lies_in_at a.rooms b.rooms a.registers b.registers number)
lies_outside a b (at.Frame place) =
    nat_lt place.frame (length a.frames) && nat_lt place.frame (length b.frames)
    && part_outside a.rooms b.rooms (frame_of a place.frame) (frame_of b place.frame) place.part
