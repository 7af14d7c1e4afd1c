-- Which values of a run an abstract value contains.
use Rattle.std.specs.Prelude.{ℕ, ◌≡◌, ◌<◌, ◌≤◌, ◌+◌, ◌*◌, ◌^◌, List, length, Option, Some, None, Result, Ok, Err, slice_get, slice_index_or, Bool, true, false, if◌then◌else◌}
use Rattle.std.specs.Int.{bit_at}
use Rattle.bpf_regions.specs.declared.memory.Value.{Value}
use Rattle.bpf_regions.specs.declared.memory.Value.TheVariants as value
use Rattle.bpf_regions.specs.declared.memory.Region.{Region}
use Rattle.bpf_regions.specs.declared.memory.Region.TheVariants as region
use Rattle.bpf_regions.specs.declared.maps.Shape.{Shape}
use Rattle.bpf_words.specs.Word.{word_add}
use Rattle.bpf_model.specs.declared.StackFrame.{StackFrame}
use Rattle.bpf_model.specs.State.{Setting}
use Rattle.bpf_model.specs.Alu.{is_unset}
use Rattle.bpf_model.specs.Memory.{set_bytes}
use Rattle.bpf_absnum.specs.Number.{InNum}
use Rattle.bpf_absval.specs.declared.value.AbsRegion.{AbsRegion}
use Rattle.bpf_absval.specs.declared.value.AbsRegion.TheVariants as place
use Rattle.bpf_absval.specs.declared.value.AbsVal.{AbsVal}
use Rattle.bpf_absval.specs.declared.value.AbsVal.TheVariants as abs
use Rattle.bpf_absval.specs.declared.value.Label.{Label}
use Rattle.bpf_absval.specs.declared.slot.AbsSlot.{AbsSlot}
use Rattle.bpf_absval.specs.declared.slot.AbsSlot.TheVariants as slot
use Rattle.bpf_absval.specs.declared.room.Room.{Room}
use Rattle.bpf_absval.specs.Rooms.{find_room}

-- What labels stand for in a run: the setting, and the offset in the frame of each label's position.
pub record Labels : Type 0 where
  pub setting : Setting
  pub base : ℕ → ℕ

-- the frame has that many bytes after the label's position
abbrev pub RoomHolds : Labels → ℕ → Option ℕ → Type 0
RoomHolds e label None = Unit {0}
RoomHolds e label (Some size) = e.base label + size ≤ length e.setting.frame

-- a frame pointer's offset x is that distance past its label's position, which has the room known of it
pub record IsLabelled (e : Labels) (rooms : List Room) (l : Label) (x : ℕ) : Type 0 where
  pub word : e.base l.label < 2 ^ 64
  pub far : x ≡ word_add (e.base l.label) l.distance
  pub room : RoomHolds e l.label (find_room rooms l.label)

-- the offset x is as its label says, if it has one
abbrev pub LabelHolds : Labels → List Room → Option Label → ℕ → Type 0
LabelHolds e rooms None x = Unit {0}
LabelHolds e rooms (Some l) x = IsLabelled e rooms l x

-- the map with that number has an entry with that index
pub record IsEntry (shapes : List Shape) (map index : ℕ) : Type 0 where
  pub shape : Shape
  pub known : slice_get shapes map ≡ Some shape
  pub within : index < shape.entries

-- the abstract region stands for this region of a run; for a map, any of its entries
abbrev pub RegionHolds : Labels → AbsRegion → Region → Type 0
RegionHolds e place.Context region.Context = Unit {0}
RegionHolds e (place.Stack k) (region.Stack j) = k ≡ j
RegionHolds e (place.Entry m) (region.Entry n index) = (m ≡ n) × IsEntry e.setting.shapes n index
RegionHolds e a r = ⊥

-- v is one of the values that the abstract value stands for; unset stands for any
abbrev pub Holds : Labels → List Room → AbsVal → Value → Type 0
Holds e rooms abs.Unset v = Unit {0}
Holds e rooms (abs.Number a) (value.Number x) = InNum a x
Holds e rooms (abs.Frame offset label) (value.Pointer region.Frame x) =
    InNum offset x × LabelHolds e rooms label x
Holds e rooms (abs.Pointer at offset) (value.Pointer r x) = RegionHolds e at r × InNum offset x
Holds e rooms abs.FrameEnd value.FrameEnd = Unit {0}
Holds e rooms (abs.MapReference m) (value.MapReference n) = m ≡ n
Holds e rooms (abs.Lookup m) (value.Number x) = x ≡ 0
Holds e rooms (abs.Lookup m) (value.Pointer (region.Entry n index) x) =
    (m ≡ n) × IsEntry e.setting.shapes n index × (x ≡ 0)
Holds e rooms a v = ⊥

-- the number that bytes spell; unset if some byte is
abbrev pub number_held : Result ℕ ℕ → Value
number_held (Ok x) = value.Number x
number_held (Err cause) = value.Unset

-- what the eight bytes of a slot hold: the spilled value, or else the number that they spell, if all are set
abbrev pub held : StackFrame → ℕ → Value
held f i =
    (if is_unset (slice_index_or f.spills i value.Unset) then number_held (set_bytes f (8 * i) 8)
    else slice_index_or f.spills i value.Unset)

-- the value is a number
abbrev pub is_number : Value → Bool
is_number (value.Number x) = true
is_number v = false

-- A stack frame of a run: 512 bytes and 64 slots; bytes are below 256; a spilled value is no number, and no byte of its
-- slot is set.
pub record IsStackFrame (f : StackFrame) : Type 0 where
  pub bytes : length f.bytes ≡ 512
  pub slots : length f.spills ≡ 64
  pub small : (at b : ℕ) → slice_get f.bytes at ≡ Some (Some b) → b < 256
  pub references : (i : ℕ) → is_number (slice_index_or f.spills i value.Unset) ≡ false
  pub apart :
      (i j : ℕ) → i < 64 → j < 8 → is_unset (slice_index_or f.spills i value.Unset) ≡ false →
      slice_get f.bytes (8 * i + j) ≡ Some None

-- the bytes of a slot whose bits are 1 are set
abbrev pub AreSet : ℕ → StackFrame → ℕ → Type 0
AreSet mask f i =
    (j : ℕ) → j < 8 → bit_at mask j ≡ 1 → (b : ℕ) × (slice_get f.bytes (8 * i + j) ≡ Some (Some b))

-- what slot i of a stack frame holds: anything, a value, or set bytes
abbrev pub SlotHolds : Labels → List Room → AbsSlot → StackFrame → ℕ → Type 0
SlotHolds e rooms slot.Unset f i = Unit {0}
SlotHolds e rooms (slot.Stored a) f i = Holds e rooms a (held f i)
SlotHolds e rooms (slot.Bytes mask) f i = AreSet mask f i
