-- What inclusion and the changes of labels and rooms keep.
use Rattle.std.specs.Prelude.{ℕ, ◌≡◌, ◌≢◌, ◌==◌, ◌≤◌, ◌+◌, if◌then◌else◌, true, List, length, None, Some}
use Rattle.bpf_regions.specs.declared.memory.Value.{Value}
use Rattle.bpf_regions.specs.declared.memory.Value.TheVariants as value
use Rattle.bpf_regions.specs.declared.memory.Region.TheVariants as region
use Rattle.bpf_model.specs.declared.StackFrame.{StackFrame}
use Rattle.bpf_absnum.specs.Number.{Num, InNum}
use Rattle.bpf_absval.specs.declared.value.AbsVal.{AbsVal}
use Rattle.bpf_absval.specs.declared.value.AbsVal.TheVariants as abs
use Rattle.bpf_absval.specs.declared.slot.AbsSlot.{AbsSlot}
use Rattle.bpf_absval.specs.declared.room.Room.{Room}
use Rattle.bpf_absval.specs.Meaning.{Labels, Holds, SlotHolds, IsStackFrame}
use Rattle.bpf_absval.specs.WellFormed.{IsVal, IsSlot}
use Rattle.bpf_absval.specs.Rooms.{find_room, raised, rooms_without}
use Rattle.bpf_absval.specs.Unlabelled.{unlabelled, slot_unlabelled}
use Rattle.bpf_absval.specs.Inclusion.{value_included, slot_included}

-- ---- inclusion

-- each value that an included abstract value contains is in the one that includes it
abbrev pub ValueKeeps : Type 0
ValueKeeps =
    (e : Labels) (rooms others : List Room) (a b : AbsVal) (v : Value) → IsVal b →
    value_included rooms others a b ≡ true → Holds e rooms a v → Holds e others b v

-- so is what a slot of a stack frame holds
abbrev pub SlotKeeps : Type 0
SlotKeeps =
    (e : Labels) (rooms others : List Room) (a b : AbsSlot) (f : StackFrame) (i : ℕ) →
    IsStackFrame f → IsSlot b → slot_included rooms others a b ≡ true
    → SlotHolds e rooms a f i → SlotHolds e others b f i

-- ---- a label is forgotten

-- the labels of two runs name the same positions, except one
pub record AgreeApart (label : ℕ) (e d : Labels) : Type 0 where
  pub setting : d.setting ≡ e.setting
  pub base : (other : ℕ) → other ≢ label → d.base other ≡ e.base other

-- the label names another position
abbrev pub placed : Labels → ℕ → ℕ → Labels
placed e label at = record e { base = λ l. if l == label then at else e.base l }

-- forgetting a label loses no value
abbrev pub ValueForgets : Type 0
ValueForgets =
    (label : ℕ) (e d : Labels) (rooms : List Room) (a : AbsVal) (v : Value) → AgreeApart label e d →
    Holds e rooms a v → Holds d (rooms_without label rooms) (unlabelled label a) v

-- nor what a slot holds
abbrev pub SlotForgets : Type 0
SlotForgets =
    (label : ℕ) (e d : Labels) (rooms : List Room) (a : AbsSlot) (f : StackFrame) (i : ℕ) →
    AgreeApart label e d
    → SlotHolds e rooms a f i →
    SlotHolds d (rooms_without label rooms) (slot_unlabelled label a) f i

-- no room of a forgotten label is known
abbrev pub NothingBehind : Type 0
NothingBehind = (label : ℕ) (rooms : List Room) → find_room (rooms_without label rooms) label ≡ None

-- a frame pointer at x, if the label comes to name x: the other labels keep their positions
abbrev pub ValueLabelled : Type 0
ValueLabelled =
    (label x : ℕ) (e : Labels) (rooms : List Room) (offset : Num) → InNum offset x
    → AgreeApart label e (placed e label x)
    × Holds (placed e label x) (rooms_without label rooms) (abs.Frame offset
    (Some (record { label = label; distance = 0 }))) (value.Pointer region.Frame x)

-- ---- a room is raised to bytes that exist

-- raising a room to bytes that the frame has loses no value
abbrev pub ValueRaises : Type 0
ValueRaises =
    (label n : ℕ) (e : Labels) (rooms : List Room) (a : AbsVal) (v : Value) →
    e.base label + n ≤ length e.setting.frame → Holds e rooms a v →
    Holds e (raised rooms label n) a v

-- nor what a slot holds
abbrev pub SlotRaises : Type 0
SlotRaises =
    (label n : ℕ) (e : Labels) (rooms : List Room) (a : AbsSlot) (f : StackFrame) (i : ℕ) →
    e.base label + n ≤ length e.setting.frame
    → SlotHolds e rooms a f i → SlotHolds e (raised rooms label n) a f i
