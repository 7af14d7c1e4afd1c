-- The one spelling of each certificate. All fields are little-endian.
use Rattle.std.specs.Prelude.{ℕ, ◌+◌, ◌/◌, List, [], ◌∷◌, ◌++◌, length, Option, Some, None}
use Rattle.std.specs.List.{flat_map}
use Rattle.std.specs.Int.{w16, w32, w64, to_le_bytes}
use Rattle.bpf_regions.specs.Hooks as hooks
use Rattle.bpf_interval.specs.Signed.{word_at}
use Rattle.bpf_absnum.specs.Number.{Num}
use Rattle.bpf_absval.specs.declared.value.AbsRegion.{AbsRegion}
use Rattle.bpf_absval.specs.declared.value.AbsRegion.TheVariants as place
use Rattle.bpf_absval.specs.declared.value.AbsVal.{AbsVal}
use Rattle.bpf_absval.specs.declared.value.AbsVal.TheVariants as abs
use Rattle.bpf_absval.specs.declared.value.Label.{Label}
use Rattle.bpf_absval.specs.declared.slot.AbsSlot.{AbsSlot}
use Rattle.bpf_absval.specs.declared.slot.AbsSlot.TheVariants as slot
use Rattle.bpf_absval.specs.declared.room.Room.{Room}
use Rattle.bpf_cert_format.specs.declared.frame.Frame.{Frame}
use Rattle.bpf_cert_format.specs.Views.{EntryView, CertificateView}

-- the first four bytes
abbrev pub magic : List ℕ
magic = 65 ∷ 80 ∷ 67 ∷ 50 ∷ []

-- an abstract number: the least and the greatest word, the known bits (value and mask), and the least and the greatest
-- signed number in two's complement
abbrev pub number : Num → List ℕ
number n =
    (to_le_bytes w64 n.range.low ++ to_le_bytes w64 n.range.high) ++ ((to_le_bytes w64 n.bits.value ++ to_le_bytes w64 n.bits.mask) ++
    (to_le_bytes w64 (word_at n.signed.low) ++ to_le_bytes w64 (word_at n.signed.high)))

-- a label and its distance; 0 and 0 without a label
abbrev pub label : Option Label → List ℕ
label None = to_le_bytes w16 0 ++ to_le_bytes w16 0
label (Some l) = to_le_bytes w16 l.label ++ to_le_bytes w16 l.distance

-- the byte of a region other than the frame, whose byte is 0
abbrev pub region : AbsRegion → ℕ
region place.Context = 1
region (place.Stack k) = 16 + k
region (place.Entry m) = 32 + m

-- the bytes of an abstract value: its kind, then its parts
abbrev pub value : AbsVal → List ℕ
value abs.Unset = 0 ∷ []
value (abs.Number n) = 1 ∷ number n
value (abs.Frame offset l) = 2 ∷ 0 ∷ (number offset ++ label l)
value (abs.Pointer at offset) = 2 ∷ region at ∷ number offset
value abs.FrameEnd = 3 ∷ []
value (abs.MapReference m) = 4 ∷ m ∷ []
value (abs.Lookup m) = 5 ∷ m ∷ []

-- eight bytes of a stack
abbrev pub cell : AbsSlot → List ℕ
cell slot.Unset = 0 ∷ []
cell (slot.Stored v) = value v
cell (slot.Bytes set) = 6 ∷ set ∷ []

-- a call frame: its return slot, R0 to R9, and 64 stack slots
abbrev pub frame : Frame → List ℕ
frame f = to_le_bytes w16 f.return_slot ++ (flat_map value f.registers ++ flat_map cell f.stack)

-- a label, and how many bytes are known to follow it
abbrev pub room : Room → List ℕ
room r = to_le_bytes w16 r.label ++ to_le_bytes w16 r.size

-- their number, and each of them
abbrev pub rooms : List Room → List ℕ
rooms rs = to_le_bytes w16 (length rs) ++ flat_map room rs

-- their number, and each of them
abbrev pub frames : List Frame → List ℕ
frames fs = length fs ∷ flat_map frame fs

-- slot, budget, least length, bytes known to follow labels, call frames
abbrev pub entry : EntryView → List ℕ
entry e =
    to_le_bytes w16 e.pc ++ (to_le_bytes w32 e.budget ++ (to_le_bytes w16 e.least ++ (rooms e.rooms ++ frames e.frames)))

-- the number of slots, and the bytes of each
abbrev pub code : List ℕ → List ℕ
code bytes = to_le_bytes w16 (length bytes / 8) ++ bytes

-- their number, and each of them
abbrev pub entries : List EntryView → List ℕ
entries es = to_le_bytes w32 (length es) ++ flat_map entry es

-- the whole certificate
abbrev pub spelling : CertificateView → List ℕ
spelling c = magic ++ (hooks.number_of c.hook ∷ (code c.code ++ entries c.entries))
