-- When one abstract value includes another.
use Rattle.std.specs.Prelude.{◌==◌, ◌&&◌, nat_le, ℕ, List, Option, Some, None, Bool, true, false, bit_and}
use Rattle.bpf_absnum.specs.Number.{num_included}
use Rattle.bpf_absval.specs.declared.value.AbsRegion.{AbsRegion}
use Rattle.bpf_absval.specs.declared.value.AbsRegion.TheVariants as place
use Rattle.bpf_absval.specs.declared.value.AbsVal.{AbsVal}
use Rattle.bpf_absval.specs.declared.value.AbsVal.TheVariants as abs
use Rattle.bpf_absval.specs.declared.value.Label.{Label}
use Rattle.bpf_absval.specs.declared.slot.AbsSlot.{AbsSlot}
use Rattle.bpf_absval.specs.declared.slot.AbsSlot.TheVariants as slot
use Rattle.bpf_absval.specs.declared.room.Room.{Room}
use Rattle.bpf_absval.specs.Rooms.{find_room}

-- both are the same region
abbrev pub region_same : AbsRegion → AbsRegion → Bool
region_same place.Context place.Context = true
region_same (place.Stack i) (place.Stack j) = i == j
region_same (place.Entry i) (place.Entry j) = i == j
region_same a b = false

-- if the other room is known, so is this one, and it is at least as large
abbrev pub room_included : Option ℕ → Option ℕ → Bool
room_included a None = true
room_included (Some known) (Some needed) = nat_le needed known
room_included None (Some needed) = false

-- the same label and distance, if the other has a label; a room is needed if the other has one
abbrev pub label_included : List Room → List Room → Option Label → Option Label → Bool
label_included rooms others a None = true
label_included rooms others None (Some l) = false
label_included rooms others (Some k) (Some l) =
    k.label == l.label && k.distance == l.distance
    && room_included (find_room rooms l.label) (find_room others l.label)

-- an unset value includes anything
abbrev pub value_included : List Room → List Room → AbsVal → AbsVal → Bool
value_included rooms others a abs.Unset = true
value_included rooms others (abs.Number a) (abs.Number b) = num_included a b
value_included rooms others (abs.Frame a k) (abs.Frame b l) =
    num_included a b && label_included rooms others k l
value_included rooms others (abs.Pointer r a) (abs.Pointer s b) =
    region_same r s && num_included a b
value_included rooms others abs.FrameEnd abs.FrameEnd = true
value_included rooms others (abs.MapReference m) (abs.MapReference n) = m == n
value_included rooms others (abs.Lookup m) (abs.Lookup n) = m == n
value_included rooms others a b = false

-- the bytes of a slot known to be set: all of a stored number, none of another stored value
abbrev pub bytes_set : AbsSlot → ℕ
bytes_set slot.Unset = 0
bytes_set (slot.Stored (abs.Number a)) = 255
bytes_set (slot.Stored v) = 0
bytes_set (slot.Bytes mask) = mask

-- slot by slot: an unset one includes each; bytes include a slot that has at least those bytes set
abbrev pub slot_included : List Room → List Room → AbsSlot → AbsSlot → Bool
slot_included rooms others a slot.Unset = true
slot_included rooms others (slot.Stored a) (slot.Stored b) = value_included rooms others a b
slot_included rooms others a (slot.Stored b) = false
slot_included rooms others a (slot.Bytes needed) = bit_and (bytes_set a) needed == needed
