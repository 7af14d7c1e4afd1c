-- Reading from left to right: a value and the bytes after it, or nothing.
use Rattle.std.specs.Prelude.{ℕ, zero, suc, ◌+◌, ◌-◌, ◌*◌, ◌==◌, nat_lt, nat_le, Bool, true, false, ◌&&◌, if◌then◌else◌, List, [], ◌∷◌, length, take, drop, Option, Some, None, bit_and}
use Rattle.std.specs.Int.{Width, w16, w32, w64, byte_len, from_le_bytes}
use Rattle.bpf_regions.specs.declared.hooks.Hook.{Hook}
use Rattle.bpf_regions.specs.declared.hooks.Hook.TheVariants.{Association, Addba, Data}
use Rattle.bpf_interval.specs.Interval.{bounds}
use Rattle.bpf_interval.specs.Signed.{place as signed_place}
use Rattle.bpf_tnum.specs.Tnum.{tnum_of}
use Rattle.bpf_absnum.specs.Number.{Num, num_of}
use Rattle.bpf_absval.specs.declared.value.AbsRegion.{AbsRegion}
use Rattle.bpf_absval.specs.declared.value.AbsRegion.TheVariants as place
use Rattle.bpf_absval.specs.declared.value.AbsVal.{AbsVal}
use Rattle.bpf_absval.specs.declared.value.AbsVal.TheVariants as abs
use Rattle.bpf_absval.specs.declared.value.Label.{Label}
use Rattle.bpf_absval.specs.declared.slot.AbsSlot.{AbsSlot}
use Rattle.bpf_absval.specs.declared.slot.AbsSlot.TheVariants as slot
use Rattle.bpf_absval.specs.declared.room.Room.{Room}
use Rattle.bpf_cert_format.specs.declared.frame.Frame.{Frame}
use Rattle.bpf_cert_format.specs.Views.{EntryView, CertificateView}

infixl 10 ◌>>=◌
-- if something was read, continue with it
abbrev pub ◌>>=◌ : {A B : Type 0} → Option A → (A → Option B) → Option B
None >>= f = None
(Some x) >>= f = f x

-- a value read from the front of bytes, with the remaining bytes
abbrev pub Reader : Type 0 → Type 0
Reader A = List ℕ → Option (A × List ℕ)

-- one after the other; the second may depend on the first
abbrev pub chained : {A B : Type 0} → Reader A → (A → Reader B) → Reader (A × B)
chained r q bytes = r bytes >>= λ x. q x.0 x.1 >>= λ y. Some ((x.0, y.0), y.1)

-- a function of what is read
abbrev pub read_as : {A B : Type 0} → (A → B) → Reader A → Reader B
read_as f r bytes = r bytes >>= λ x. Some (f x.0, x.1)

-- only if it passes a test
abbrev pub only_if : {A : Type 0} → (A → Bool) → Reader A → Reader A
only_if p r bytes = r bytes >>= λ x. (if p x.0 then Some x else None)

-- n of them, one after the other
unfoldable pub many : {A : Type 0} → Reader A → ℕ → Reader (List A)
many r zero bytes = Some ([], bytes)
many r (suc n) bytes = r bytes >>= λ x. many r n x.1 >>= λ y. Some (x.0 ∷ y.0, y.1)

-- ---- fields

-- one byte
abbrev pub byte_at : Reader ℕ
byte_at [] = None
byte_at (b ∷ rest) = Some (b, rest)

-- n bytes
unfoldable pub taken : ℕ → Reader (List ℕ)
taken n bytes = (if nat_lt (length bytes) n then None else Some (take n bytes, drop n bytes))

-- a little-endian number
unfoldable pub word_at : Width → Reader ℕ
word_at w bytes = (if nat_lt (length bytes) (byte_len w) then None else Some (from_le_bytes w (take (byte_len w) bytes), drop (byte_len w) bytes))

-- two numbers of 64 bits
abbrev pub pair_at : Reader (ℕ × ℕ)
pair_at = chained (word_at w64) (λ _. word_at w64)

-- whether the least number is at most the greatest
abbrev pub are_ordered : ℕ × ℕ → Bool
are_ordered p = nat_le p.0 p.1

-- whether no bit is both known and unknown
abbrev pub are_apart : ℕ × ℕ → Bool
are_apart p = bit_and p.0 p.1 == 0

-- whether the least signed number is at most the greatest
abbrev pub are_signed_ordered : ℕ × ℕ → Bool
are_signed_ordered p = nat_le (signed_place p.0) (signed_place p.1)

-- an abstract number from its unsigned bounds, its known bits and its signed bounds
abbrev pub number_of : ((ℕ × ℕ) × ((ℕ × ℕ) × (ℕ × ℕ))) → Num
number_of p = num_of (bounds p.0.0 p.0.1) (bounds (signed_place p.1.1.0) (signed_place p.1.1.1)) (tnum_of p.1.0.0 p.1.0.1)

-- an abstract number: its unsigned bounds in order, no bit both known and unknown, its signed bounds in order
unfoldable pub number_at : Reader Num
number_at =
    read_as number_of (chained (only_if are_ordered pair_at) (λ _. chained (only_if are_apart pair_at) (λ _. only_if are_signed_ordered pair_at)))

-- a label is above 0 and its distance at most 2400, or both numbers are 0
abbrev pub is_label : ℕ × ℕ → Bool
is_label p = (if p.0 == 0 then p.1 == 0 else nat_le p.1 2400)

-- the number 0 is no label
abbrev pub label_of : ℕ × ℕ → Option Label
label_of p = (if p.0 == 0 then None else Some (record { label = p.0; distance = p.1 }))

-- a label and its distance, or no label
unfoldable pub label_at : Reader (Option Label)
label_at = read_as label_of (only_if is_label (chained (word_at w16) (λ _. word_at w16)))

-- ---- values

-- the region that a byte names: the context, a stack frame from 16 on, a map's entry from 32 on
abbrev pub region_named : ℕ → ℕ → ℕ → Option AbsRegion
region_named maps frames b =
    (if b == 1 then Some place.Context
    else (if nat_le 16 b && nat_lt b (16 + frames) then Some (place.Stack (b - 16))
    else (if nat_le 32 b && nat_lt b (32 + maps) then Some (place.Entry (b - 32))
    else None)))

-- a map's number, below that many maps
abbrev pub map_at : ℕ → Reader ℕ
map_at maps = only_if (λ m. nat_lt m maps) byte_at

-- a pointer to the frame: its offset and its label
abbrev pub frame_pointer_at : Reader AbsVal
frame_pointer_at = read_as (λ x. abs.Frame x.0 x.1) (chained number_at (λ _. label_at))

-- a pointer into the region of that byte
unfoldable pub pointer_into : ℕ → ℕ → ℕ → Reader AbsVal
pointer_into maps frames b bytes =
    (if b == 0 then frame_pointer_at bytes
    else (region_named maps frames b >>= λ region. read_as (abs.Pointer region) number_at bytes))

-- the rest of a value after the byte of its kind: unset, a number, a pointer, the frame's end, a map, a lookup
unfoldable pub value_tagged : ℕ → ℕ → ℕ → Reader AbsVal
value_tagged maps frames tag bytes =
    (if tag == 0 then Some (abs.Unset, bytes)
    else (if tag == 1 then read_as abs.Number number_at bytes
    else (if tag == 2 then (byte_at bytes >>= λ b. pointer_into maps frames b.0 b.1)
    else (if tag == 3 then Some (abs.FrameEnd, bytes)
    else (if tag == 4 then read_as abs.MapReference (map_at maps) bytes
    else (if tag == 5 then read_as abs.Lookup (map_at maps) bytes
    else None))))))

-- a value: a byte for its kind, and the rest
unfoldable pub value_at : ℕ → ℕ → Reader AbsVal
value_at maps frames bytes = byte_at bytes >>= λ t. value_tagged maps frames t.0 t.1

-- a slot of a stack: unset, bytes that are set, or a stored value
unfoldable pub cell_at : ℕ → ℕ → Reader AbsSlot
cell_at maps frames bytes =
    byte_at bytes >>= λ t.
    (if t.0 == 0 then Some (slot.Unset, t.1)
    else (if t.0 == 6 then read_as slot.Bytes byte_at t.1
    else read_as slot.Stored (value_tagged maps frames t.0) t.1))

-- ---- frames, bytes known to follow labels, entries

-- a stack frame: its return slot, its ten registers, its 64 slots
unfoldable pub frame_at : ℕ → ℕ → Reader Frame
frame_at maps count =
    read_as (λ p. record { return_slot = p.0; registers = p.1.0; stack = p.1.1 })
    (chained (word_at w16) (λ _. chained (many (value_at maps count) 10) (λ _. many (cell_at maps count) 64)))

-- whether there can be that many stack frames: 1 to 8
abbrev pub is_count : ℕ → Bool
is_count n = nat_le 1 n && nat_le n 8

-- whether the first stack frame has return slot 0
abbrev pub is_main_first : List Frame → Bool
is_main_first [] = false
is_main_first (f ∷ fs) = f.return_slot == 0

-- the number of frames, and each of them, the main function's first
unfoldable pub frames_at : ℕ → Reader (List Frame)
frames_at maps =
    only_if is_main_first (read_as (λ p. p.1) (chained (only_if is_count byte_at) (λ n. many (frame_at maps n) n)))

-- a label, and how many bytes are known to follow it
unfoldable pub room_at : Reader Room
room_at = read_as (λ p. record { label = p.0; size = p.1 }) (chained (word_at w16) (λ _. word_at w16))

-- the labels are above `above` and rise, and each has at most 2400 known bytes
unfoldable pub are_rising : ℕ → List Room → Bool
are_rising above [] = true
are_rising above (r ∷ rs) = nat_lt above r.label && nat_le r.size 2400 && are_rising r.label rs

-- their number, and each of them, by rising labels
unfoldable pub rooms_at : Reader (List Room)
rooms_at = only_if (are_rising 0) (read_as (λ p. p.1) (chained (word_at w16) (λ n. many room_at n)))

-- an entry from its parts
abbrev pub entry_of : ℕ × (ℕ × (ℕ × (List Room × List Frame))) → EntryView
entry_of p = record { pc = p.0; budget = p.1.0; least = p.1.1.0; rooms = p.1.1.1.0; frames = p.1.1.1.1 }

-- an entry: its slot, its budget, the least length of the received frame, the bytes known to follow labels, the frames
unfoldable pub entry_at : ℕ → Reader EntryView
entry_at maps =
    read_as entry_of
    (chained (word_at w16) (λ _. chained (word_at w32) (λ _. chained (word_at w16) (λ _. chained rooms_at (λ _. frames_at maps)))))

-- ---- the whole

-- the first four bytes of each certificate
unfoldable pub magic_at : Reader ℕ
magic_at = only_if (λ n. n == 843272257) (word_at w32)

-- the hook that a byte names
abbrev pub hook_named : ℕ → Option Hook
hook_named b =
    (if b == 1 then Some Association else (if b == 2 then Some Addba else (if b == 3 then Some Data else None)))

-- the hook
unfoldable pub hook_at : Reader Hook
hook_at bytes = byte_at bytes >>= λ b. hook_named b.0 >>= λ hook. Some (hook, b.1)

-- the number of slots of the code, and its bytes
unfoldable pub code_at : Reader (List ℕ)
code_at = read_as (λ p. p.1) (chained (word_at w16) (λ n. taken (8 * n)))

-- the number of entries, and each of them
unfoldable pub entries_at : ℕ → Reader (List EntryView)
entries_at maps = read_as (λ p. p.1) (chained (word_at w32) (λ n. many (entry_at maps) n))

-- a certificate from its parts
abbrev pub certificate_of : ℕ × (Hook × (List ℕ × List EntryView)) → CertificateView
certificate_of p = record { hook = p.1.0; code = p.1.1.0; entries = p.1.1.1 }

-- a certificate: the first four bytes, its hook, its code, its entries
unfoldable pub certificate_at : ℕ → Reader CertificateView
certificate_at maps =
    read_as certificate_of (chained magic_at (λ _. chained hook_at (λ _. chained code_at (λ _. entries_at maps))))

-- a certificate that takes all the bytes
unfoldable pub all_of : ℕ → List ℕ → Option CertificateView
all_of maps bytes = certificate_at maps bytes >>= λ x. (if length x.1 == 0 then Some x.0 else None)
