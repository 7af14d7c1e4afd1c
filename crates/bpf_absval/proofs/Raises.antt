-- What raising a room keeps.
use Rattle.std.proofs.Common.{ℕ, ◌+◌, ◌≤◌, ◌==◌, max, List, [], ◌∷◌, length, Option, Some, None, ap, sym, ◌∙◌, arith, if◌then◌else◌}
use Rattle.std.specs.Prelude.{nat_lt}
use Rattle.std.proofs.lemmas.Bool.{eqb-true, cond_both}
use Rattle.bpf_regions.specs.declared.memory.Value.TheVariants as value
use Rattle.bpf_regions.specs.declared.memory.Region.TheVariants as region
use Rattle.bpf_absval.specs.declared.value.AbsVal.TheVariants as abs
use Rattle.bpf_absval.specs.declared.value.Label.{Label}
use Rattle.bpf_absval.specs.declared.slot.AbsSlot.TheVariants as slot
use Rattle.bpf_absval.specs.declared.room.Room.{Room}
use Rattle.bpf_absval.specs.Rooms.{find_room, raised}
use Rattle.bpf_absval.specs.Meaning.{Labels, RoomHolds, LabelHolds, held}
use Rattle.bpf_absval.specs.Laws.{ValueRaises, SlotRaises}

-- each room, raised or not, holds
rooms_hold : (e : Labels) (rooms : List Room) (label n other : ℕ) → e.base label + n ≤ length e.setting.frame
    → RoomHolds e other (find_room rooms other) → RoomHolds e other (find_room (raised rooms label n) other)
unfolding find_room raised
rooms_hold e [] label n other fits h =
    cond_both (label == other) (Some n) None (RoomHolds e other) (λ same. omega (arith, fits, ap e.base (eqb-true label other same))) (λ apart. tt)
rooms_hold e (r ∷ rs) label n other fits h =
    let new : Room = record { label = label; size = n } in
    cond_both (r.label == label) (record r { size = max r.size n } ∷ rs) (if nat_lt label r.label then new ∷ r ∷ rs else r ∷ raised rs label n) (λ xs. RoomHolds e other (find_room xs other))
    (λ is. cond_both (r.label == other) (Some (max r.size n)) (find_room rs other) (RoomHolds e other)
    (λ same. omega (arith, fits, rw same at h, ap e.base (sym (eqb-true r.label label is) ∙ eqb-true r.label other same)))
    (λ apart. rw apart at h))
    (λ not. cond_both (nat_lt label r.label) (new ∷ r ∷ rs) (r ∷ raised rs label n) (λ xs. RoomHolds e other (find_room xs other))
    (λ lower. cond_both (label == other) (Some n) (find_room (r ∷ rs) other) (RoomHolds e other)
    (λ same. omega (arith, fits, ap e.base (eqb-true label other same)))
    (λ apart. h))
    (λ higher. cond_both (r.label == other) (Some r.size) (find_room (raised rs label n) other) (RoomHolds e other)
    (λ same. rw same at h)
    (λ apart. rooms_hold e rs label n other fits (rw apart at h))))

label_holds : (e : Labels) (rooms : List Room) (label n : ℕ) (l : Option Label) (x : ℕ) → e.base label + n ≤ length e.setting.frame
    → LabelHolds e rooms l x → LabelHolds e (raised rooms label n) l x
label_holds e rooms label n None x fits h = tt
label_holds e rooms label n (Some l) x fits h =
    record { word = h.word; far = h.far; room = rooms_hold e rooms label n l.label fits h.room }

pub value_raises : ValueRaises
value_raises label n e rooms abs.Unset v fits h = tt
value_raises label n e rooms (abs.Number a) (value.Number x) fits h = h
value_raises label n e rooms (abs.Frame offset l) (value.Pointer region.Frame x) fits h = (h.0, label_holds e rooms label n l x fits h.1)
value_raises label n e rooms (abs.Pointer at offset) (value.Pointer r x) fits h = h
value_raises label n e rooms abs.FrameEnd value.FrameEnd fits h = tt
value_raises label n e rooms (abs.MapReference m) (value.MapReference k) fits h = h
value_raises label n e rooms (abs.Lookup m) (value.Number x) fits h = h
value_raises label n e rooms (abs.Lookup m) (value.Pointer (region.Entry k index) x) fits h = h
value_raises label n e rooms a v fits h = absurd h

pub slot_raises : SlotRaises
slot_raises label n e rooms slot.Unset f i fits h = tt
slot_raises label n e rooms (slot.Stored a) f i fits h = value_raises label n e rooms a (held f i) fits h
slot_raises label n e rooms (slot.Bytes mask) f i fits h = h
