-- Values, stack slots, frames, bytes known to follow labels, entries and certificates as formats.
use Rattle.std.proofs.Common.{◌≡◌, ℕ, ◌*◌, ◌/◌, ◌^◌, ◌<◌, ◌≤◌, true, false, ltb, leb, eqb, List, [], ◌∷◌, ◌++◌, length, Option, Some, None, refl, sym, ap, subst, ◌∙◌, arith, inl, inr}
use Rattle.std.specs.Prelude.{◌&&◌}
use Rattle.std.specs.List.{flat_map, AllByRecursion}
use Rattle.std.specs.Int.{w16, w32, to_le_bytes}
use Rattle.std.proofs.lemmas.Bool.{ltb-true, lt-ltb, leb-true, le-leb, eqb-true, eq-eqb, and_parts, and_from, true≢false}
use Rattle.bpf_regions.specs.declared.hooks.Hook.{Hook}
use Rattle.bpf_regions.specs.declared.hooks.Hook.TheVariants.{Association, Addba, Data}
use Rattle.bpf_regions.specs.Hooks as hooks
use Rattle.bpf_absval.specs.declared.value.AbsVal.{AbsVal}
use Rattle.bpf_absval.specs.declared.value.AbsVal.TheVariants as abs
use Rattle.bpf_absval.specs.declared.slot.AbsSlot.{AbsSlot}
use Rattle.bpf_absval.specs.declared.slot.AbsSlot.TheVariants as slot
use Rattle.bpf_absval.specs.declared.room.Room.{Room}
use Rattle.bpf_cert_format.specs.declared.frame.Frame.{Frame}
use Rattle.bpf_cert_format.specs.Views.{EntryView, CertificateView}
use Rattle.bpf_cert_format.specs.Fits.{FitsValue, FitsStored, FitsCell, FitsFrame, Rise, IsMainFirst, FitsEntry, AreBytes, FitsCertificate}
use Rattle.bpf_cert_format.specs.Spelling.{magic, number, label, region, value, cell, frame, room, rooms, frames, entry, code, entries, spelling}
use Rattle.bpf_cert_format.specs.Reading.{◌>>=◌, chained, read_as, only_if, many, byte_at, word_at, taken, number_at, map_at, pointer_into, value_tagged, value_at, cell_at, frame_at, is_count, is_main_first, frames_at, room_at, are_rising, rooms_at, entry_of, entry_at, magic_at, hook_named, hook_at, code_at, entries_at, certificate_of, certificate_at}
use Rattle.bpf_cert_format.proofs.Formats.{IsBytes, IsBytes-rest, bind_some, chosen, some_is, Takes, IsFormat, chained_format, read_as_format, only_if_format, many_format}
use Rattle.bpf_cert_format.proofs.Smallest.{byte_format, word_format, taken_format, wide16, wide32, number_format}
use Rattle.bpf_cert_format.proofs.Regions.{Pair, AreShort, spelled_short, short_format, Takes-cons, Tagged, place_format, pointer_takes, names, region_some}

-- ---- values

-- a byte below the number of maps
map_takes : (maps : ℕ) (bytes : List ℕ) (x : ℕ × List ℕ) → IsBytes bytes → map_at maps bytes ≡ Some x → Takes bytes (x.0 ∷ []) x.1 × (x.0 < maps)
map_takes maps bytes x fits e =
    let t = (only_if_format ℕ (λ b. b ∷ []) (λ b. b < 256) byte_at (λ m. ltb m maps) byte_format).takes bytes x fits e in
    (t.0, ltb-true _ _ t.1.1)

tagged_takes : (maps count tag : ℕ) (bytes : List ℕ) (x : AbsVal × List ℕ) → IsBytes bytes → value_tagged maps count tag bytes ≡ Some x → Tagged maps count tag bytes x
unfolding value_tagged
tagged_takes maps count tag bytes x fits e =
    elim (chosen (eqb tag 0) (Some (abs.Unset, bytes)) _ (Some x) e) [
      | inl h ↦
          let made : AbsVal × List ℕ = (abs.Unset, bytes) in
          subst (Tagged maps count tag bytes) (some_is made x h.1) (subst (λ (k : ℕ). Takes (k ∷ bytes) (0 ∷ []) bytes) (sym (eqb-true tag 0 h.0)) (record { parts = refl; rest_fits = fits }), tt, λ ne. absurd (ne (eqb-true tag 0 h.0)))
      | inr h ↦ elim (chosen (eqb tag 1) (read_as abs.Number number_at bytes) _ (Some x) h.1) [
        | inl k ↦
            let a = bind_some (number_at bytes) (λ x. Some (abs.Number x.0, x.1)) x k.1 in
            let t = number_format.takes bytes a.0 fits a.1 in
            let made : AbsVal × List ℕ = (abs.Number a.0.0, a.0.1) in
            subst (λ (n : ℕ). Tagged maps count n bytes x) (sym (eqb-true tag 1 k.0))
            (subst (Tagged maps count 1 bytes) (some_is made x a.2) (Takes-cons 1 bytes (number a.0.0) a.0.1 t.0, t.1, λ ne. t.1))
        | inr k ↦ elim (chosen (eqb tag 2) (byte_at bytes >>= λ b. pointer_into maps count b.0 b.1) _ (Some x) k.1) [
          | inl l ↦
              subst (λ (n : ℕ). Tagged maps count n bytes x) (sym (eqb-true tag 2 l.0)) (behind_two maps count bytes x fits l.1)
          | inr l ↦ elim (chosen (eqb tag 3) (Some (abs.FrameEnd, bytes)) _ (Some x) l.1) [
            | inl m ↦
                let made : AbsVal × List ℕ = (abs.FrameEnd, bytes) in
                subst (λ (n : ℕ). Tagged maps count n bytes x) (sym (eqb-true tag 3 m.0))
                (subst (Tagged maps count 3 bytes) (some_is made x m.1) (record { parts = refl; rest_fits = fits }, tt, λ ne. tt))
            | inr m ↦ elim (chosen (eqb tag 4) (read_as abs.MapReference (map_at maps) bytes) _ (Some x) m.1) [
              | inl n ↦
                  let a = bind_some (map_at maps bytes) (λ x. Some (abs.MapReference x.0, x.1)) x n.1 in
                  let t = map_takes maps bytes a.0 fits a.1 in
                  let made : AbsVal × List ℕ = (abs.MapReference a.0.0, a.0.1) in
                  subst (λ (n : ℕ). Tagged maps count n bytes x) (sym (eqb-true tag 4 n.0))
                  (subst (Tagged maps count 4 bytes) (some_is made x a.2) (Takes-cons 4 bytes (a.0.0 ∷ []) a.0.1 t.0, t.1, λ ne. t.1))
              | inr n ↦ elim (chosen (eqb tag 5) (read_as abs.Lookup (map_at maps) bytes) None (Some x) n.1) [
                | inl o ↦
                    let a = bind_some (map_at maps bytes) (λ x. Some (abs.Lookup x.0, x.1)) x o.1 in
                    let t = map_takes maps bytes a.0 fits a.1 in
                    let made : AbsVal × List ℕ = (abs.Lookup a.0.0, a.0.1) in
                    subst (λ (n : ℕ). Tagged maps count n bytes x) (sym (eqb-true tag 5 o.0))
                    (subst (Tagged maps count 5 bytes) (some_is made x a.2) (Takes-cons 5 bytes (a.0.0 ∷ []) a.0.1 t.0, t.1, λ ne. t.1))
                | inr o ↦ let e : None ≡ Some x = o.1 in absurd cc
              ]
            ]
          ]
        ]
      ]
    ]
  where
    behind_two : (maps count : ℕ) (bytes : List ℕ) (x : AbsVal × List ℕ) → IsBytes bytes → (byte_at bytes >>= λ b. pointer_into maps count b.0 b.1) ≡ Some x → Tagged maps count 2 bytes x
    behind_two maps count [] x fits e = absurd cc
    behind_two maps count (b ∷ bytes) x fits e = pointer_takes maps count b bytes x (IsBytes-rest b bytes fits) e

-- the tag of a value, and what follows it
abbrev tag_of : AbsVal → ℕ
tag_of abs.Unset = 0
tag_of (abs.Number n) = 1
tag_of (abs.Frame offset l) = 2
tag_of (abs.Pointer at offset) = 2
tag_of abs.FrameEnd = 3
tag_of (abs.MapReference m) = 4
tag_of (abs.Lookup m) = 5

abbrev tail_of : AbsVal → List ℕ
tail_of abs.Unset = []
tail_of (abs.Number n) = number n
tail_of (abs.Frame offset l) = 0 ∷ (number offset ++ label l)
tail_of (abs.Pointer at offset) = region at ∷ number offset
tail_of abs.FrameEnd = []
tail_of (abs.MapReference m) = m ∷ []
tail_of (abs.Lookup m) = m ∷ []

parts_of : (v : AbsVal) → value v ≡ tag_of v ∷ tail_of v
parts_of abs.Unset = refl
parts_of (abs.Number n) = refl
parts_of (abs.Frame offset l) = refl
parts_of (abs.Pointer at offset) = refl
parts_of abs.FrameEnd = refl
parts_of (abs.MapReference m) = refl
parts_of (abs.Lookup m) = refl

tagged_again : (maps count : ℕ) (v : AbsVal) (rest : List ℕ) → count ≤ 8 → FitsValue maps count v → value_tagged maps count (tag_of v) (tail_of v ++ rest) ≡ Some (v, rest)
unfolding value_tagged pointer_into
tagged_again maps count abs.Unset rest few fits = refl
tagged_again maps count (abs.Number n) rest few fits = ap (λ o. o >>= λ x. Some (abs.Number x.0, x.1)) (number_format.again n rest fits)
tagged_again maps count (abs.Frame offset l) rest few fits = ap (λ o. o >>= λ x. Some (abs.Frame x.0.0 x.0.1, x.1)) (place_format.again (offset, l) rest fits)
tagged_again maps count (abs.Pointer at offset) rest few fits =
    rw (region_some at, names maps count at few fits.0) (ap (λ o. o >>= λ x. Some (abs.Pointer at x.0, x.1)) (number_format.again offset rest fits.1))
tagged_again maps count abs.FrameEnd rest few fits = refl
tagged_again maps count (abs.MapReference m) rest few fits = rw (lt-ltb m maps fits) refl
tagged_again maps count (abs.Lookup m) rest few fits = rw (lt-ltb m maps fits) refl

value_takes : (maps count : ℕ) (bytes : List ℕ) (x : AbsVal × List ℕ) → IsBytes bytes → value_at maps count bytes ≡ Some x → Takes bytes (value x.0) x.1 × FitsValue maps count x.0
unfolding value_at
value_takes maps count [] x fits e = absurd cc
value_takes maps count (tag ∷ bytes) x fits e =
    let t = tagged_takes maps count tag bytes x (IsBytes-rest tag bytes fits) e in (t.0, t.1)

value_again : (maps count : ℕ) (v : AbsVal) (rest : List ℕ) → count ≤ 8 → FitsValue maps count v → value_at maps count (value v ++ rest) ≡ Some (v, rest)
unfolding value_at
value_again maps count v rest few fits =
    ap (λ (w : List ℕ). value_at maps count (w ++ rest)) (parts_of v) ∙ tagged_again maps count v rest few fits

pub value_format : (maps count : ℕ) → count ≤ 8 → IsFormat AbsVal value (FitsValue maps count) (value_at maps count)
value_format maps count few = record { takes = value_takes maps count; again = λ v rest fits. value_again maps count v rest few fits }

-- ---- stack slots

cell_takes : (maps count : ℕ) (bytes : List ℕ) (x : AbsSlot × List ℕ) → IsBytes bytes → cell_at maps count bytes ≡ Some x → Takes bytes (cell x.0) x.1 × FitsCell maps count x.0
unfolding cell_at
cell_takes maps count [] x fits e = absurd cc
cell_takes maps count (tag ∷ bytes) x fits e =
    let rest_fits = IsBytes-rest tag bytes fits in
    elim (chosen (eqb tag 0) (Some (slot.Unset, bytes)) _ (Some x) e) [
      | inl h ↦
          let made : AbsSlot × List ℕ = (slot.Unset, bytes) in
          subst (λ (y : AbsSlot × List ℕ). Takes (tag ∷ bytes) (cell y.0) y.1 × FitsCell maps count y.0) (some_is made x h.1)
          (subst (λ (k : ℕ). Takes (k ∷ bytes) (0 ∷ []) bytes) (sym (eqb-true tag 0 h.0)) (record { parts = refl; rest_fits = rest_fits }), tt)
      | inr h ↦ elim (chosen (eqb tag 6) (read_as slot.Bytes byte_at bytes) _ (Some x) h.1) [
        | inl k ↦
            let a = bind_some (byte_at bytes) (λ x. Some (slot.Bytes x.0, x.1)) x k.1 in
            let t = byte_format.takes bytes a.0 rest_fits a.1 in
            let made : AbsSlot × List ℕ = (slot.Bytes a.0.0, a.0.1) in
            subst (λ (n : ℕ). Takes (n ∷ bytes) (cell x.0) x.1 × FitsCell maps count x.0) (sym (eqb-true tag 6 k.0))
            (subst (λ (y : AbsSlot × List ℕ). Takes (6 ∷ bytes) (cell y.0) y.1 × FitsCell maps count y.0) (some_is made x a.2) (Takes-cons 6 bytes (a.0.0 ∷ []) a.0.1 t.0, t.1))
        | inr k ↦
            let a = bind_some (value_tagged maps count tag bytes) (λ x. Some (slot.Stored x.0, x.1)) x k.1 in
            let t = tagged_takes maps count tag bytes a.0 rest_fits a.1 in
            let made : AbsSlot × List ℕ = (slot.Stored a.0.0, a.0.1) in
            let set : tag ≡ 0 → ⊥ = λ z. true≢false (sym (eq-eqb tag 0 z) ∙ h.0) in
            subst (λ (y : AbsSlot × List ℕ). Takes (tag ∷ bytes) (cell y.0) y.1 × FitsCell maps count y.0) (some_is made x a.2) (t.0, t.2 set)
      ]
    ]

-- the tag of a stored value
stored_tag : (maps count : ℕ) (v : AbsVal) → FitsStored maps count v → (eqb (tag_of v) 0 ≡ false) × (eqb (tag_of v) 6 ≡ false) × FitsValue maps count v
stored_tag maps count abs.Unset fits = absurd fits
stored_tag maps count (abs.Number n) fits = (refl, refl, fits)
stored_tag maps count (abs.Frame offset l) fits = (refl, refl, fits)
stored_tag maps count (abs.Pointer at offset) fits = (refl, refl, fits)
stored_tag maps count abs.FrameEnd fits = (refl, refl, fits)
stored_tag maps count (abs.MapReference m) fits = (refl, refl, fits)
stored_tag maps count (abs.Lookup m) fits = (refl, refl, fits)

cell_again : (maps count : ℕ) (s : AbsSlot) (rest : List ℕ) → count ≤ 8 → FitsCell maps count s → cell_at maps count (cell s ++ rest) ≡ Some (s, rest)
unfolding cell_at
cell_again maps count slot.Unset rest few fits = refl
cell_again maps count (slot.Stored v) rest few fits =
    let t = stored_tag maps count v fits in
    let so : cell_at maps count (tag_of v ∷ (tail_of v ++ rest)) ≡ (value_tagged maps count (tag_of v) (tail_of v ++ rest) >>= λ x. Some (slot.Stored x.0, x.1)) = rw (t.0, t.1) refl in
    ap (λ (w : List ℕ). cell_at maps count (w ++ rest)) (parts_of v) ∙ so
    ∙ ap (λ (o : Option (AbsVal × List ℕ)). o >>= λ x. Some (slot.Stored x.0, x.1)) (tagged_again maps count v rest few t.2)
cell_again maps count (slot.Bytes set) rest few fits = refl

pub cell_format : (maps count : ℕ) → count ≤ 8 → IsFormat AbsSlot cell (FitsCell maps count) (cell_at maps count)
cell_format maps count few = record { takes = cell_takes maps count; again = λ s rest fits. cell_again maps count s rest few fits }

-- ---- call frames

abbrev Held : Type 0
Held = List AbsVal × List AbsSlot

abbrev FitsHeld : ℕ → ℕ → Held → Type 0
FitsHeld maps count p = (AllByRecursion (FitsValue maps count) p.0 × (length p.0 ≡ 10)) × (AllByRecursion (FitsCell maps count) p.1 × (length p.1 ≡ 64))

held_format : (maps count : ℕ) → count ≤ 8 →
    IsFormat Held (λ p. flat_map value p.0 ++ flat_map cell p.1) (FitsHeld maps count) (chained (many (value_at maps count) 10) (λ _. many (cell_at maps count) 64))
held_format maps count few =
    chained_format (List AbsVal) (List AbsSlot) (flat_map value) (λ xs. AllByRecursion (FitsValue maps count) xs × (length xs ≡ 10)) (many (value_at maps count) 10)
    (λ _. flat_map cell) (λ _ xs. AllByRecursion (FitsCell maps count) xs × (length xs ≡ 64)) (λ _. many (cell_at maps count) 64)
    (many_format AbsVal value (FitsValue maps count) (value_at maps count) 10 (value_format maps count few))
    (λ x h. many_format AbsSlot cell (FitsCell maps count) (cell_at maps count) 64 (cell_format maps count few))

abbrev frame_of : ℕ × Held → Frame
frame_of p = record { return_slot = p.0; registers = p.1.0; stack = p.1.1 }

frame_format : (maps count : ℕ) → count ≤ 8 → IsFormat Frame frame (FitsFrame maps count) (frame_at maps count)
unfolding frame_at
frame_format maps count few =
    read_as_format (ℕ × Held) Frame (λ p. to_le_bytes w16 p.0 ++ (flat_map value p.1.0 ++ flat_map cell p.1.1)) (λ p. (p.0 < 2 ^ 16) × FitsHeld maps count p.1)
    (chained (word_at w16) (λ _. chained (many (value_at maps count) 10) (λ _. many (cell_at maps count) 64))) frame (FitsFrame maps count) frame_of
    (λ p fits. (refl, record { return_slot = fits.0; registers = fits.1.0.1; values = fits.1.0.0; stack = fits.1.1.1; cells = fits.1.1.0 }))
    (λ f fits. ((f.return_slot, (f.registers, f.stack)), (fits.return_slot, ((fits.values, fits.registers), (fits.cells, fits.stack))), refl))
    (chained_format ℕ Held (to_le_bytes w16) (λ n. n < 2 ^ 16) (word_at w16) (λ _ p. flat_map value p.0 ++ flat_map cell p.1) (λ _. FitsHeld maps count)
    (λ _. chained (many (value_at maps count) 10) (λ _. many (cell_at maps count) 64)) (word_format w16 (2 ^ 16) wide16) (λ x h. held_format maps count few))

abbrev FitsFrames : ℕ → List Frame → Type 0
FitsFrames maps fs = (1 ≤ length fs) × (length fs ≤ 8) × AllByRecursion (FitsFrame maps (length fs)) fs

abbrev Counted : Type 0 → Type 0
Counted A = ℕ × List A

abbrev FitsCounted : ℕ → Counted Frame → Type 0
FitsCounted maps p = ((p.0 < 256) × (is_count p.0 ≡ true)) × (AllByRecursion (FitsFrame maps p.0) p.1 × (length p.1 ≡ p.0))

counted_frames : (maps : ℕ) → IsFormat (Counted Frame) (λ p. (p.0 ∷ []) ++ flat_map frame p.1) (FitsCounted maps) (chained (only_if is_count byte_at) (λ n. many (frame_at maps n) n))
counted_frames maps =
    chained_format ℕ (List Frame) (λ b. b ∷ []) (λ n. (n < 256) × (is_count n ≡ true)) (only_if is_count byte_at) (λ _. flat_map frame)
    (λ n fs. AllByRecursion (FitsFrame maps n) fs × (length fs ≡ n)) (λ n. many (frame_at maps n) n)
    (only_if_format ℕ (λ b. b ∷ []) (λ b. b < 256) byte_at is_count byte_format)
    (λ n h. many_format Frame frame (FitsFrame maps n) (frame_at maps n) n (frame_format maps n (leb-true _ _ (and_parts (leb 1 n) (leb n 8) h.1).1)))

counted_shape : (maps : ℕ) (p : Counted Frame) → FitsCounted maps p → (frames p.1 ≡ (p.0 ∷ []) ++ flat_map frame p.1) × FitsFrames maps p.1
counted_shape maps p fits =
    let len : length p.1 ≡ p.0 = fits.1.1 in
    let few = and_parts (leb 1 p.0) (leb p.0 8) fits.0.1 in
    let some : 1 ≤ p.0 = leb-true _ _ few.0 in
    let most : p.0 ≤ 8 = leb-true _ _ few.1 in
    (ap (λ (n : ℕ). n ∷ flat_map frame p.1) len, (omega (arith, some, len), omega (arith, most, len), subst (λ (n : ℕ). AllByRecursion (FitsFrame maps n) p.1) (sym len) fits.1.0))

counted_back : (maps : ℕ) (fs : List Frame) → FitsFrames maps fs → (p : Counted Frame) × FitsCounted maps p × (p.1 ≡ fs)
counted_back maps fs fits =
    let some = le-leb _ _ fits.0 in
    let most = le-leb _ _ fits.1 in
    ((length fs, fs), ((omega (arith, fits.1), and_from (leb 1 (length fs)) (leb (length fs) 8) some most), (fits.2, refl)), refl)

abbrev FitsMain : ℕ → List Frame → Type 0
FitsMain maps fs = FitsFrames maps fs × (is_main_first fs ≡ true)

frames_format : (maps : ℕ) → IsFormat (List Frame) frames (FitsMain maps) (frames_at maps)
unfolding frames_at
frames_format maps =
    let counted = chained (only_if is_count byte_at) (λ n. many (frame_at maps n) n) in
    only_if_format (List Frame) frames (FitsFrames maps) (read_as (λ p. p.1) counted) is_main_first
    (read_as_format (Counted Frame) (List Frame) (λ p. (p.0 ∷ []) ++ flat_map frame p.1) (FitsCounted maps) counted frames (FitsFrames maps) (λ p. p.1)
    (counted_shape maps) (counted_back maps) (counted_frames maps))

-- ---- bytes known to follow labels

abbrev IsShort : Room → Type 0
IsShort r = (r.label < 2 ^ 16) × (r.size < 2 ^ 16)

room_format : IsFormat Room room IsShort room_at
unfolding room_at
room_format =
    read_as_format Pair Room spelled_short AreShort (chained (word_at w16) (λ _. word_at w16)) room IsShort (λ p. record { label = p.0; size = p.1 })
    (λ p fits. (refl, fits)) (λ r fits. ((r.label, r.size), fits, refl)) short_format

abbrev AreShortRooms : List Room → Type 0
AreShortRooms rs = (length rs < 2 ^ 16) × AllByRecursion IsShort rs

abbrev FitsRooms : List Room → Type 0
FitsRooms rs = AreShortRooms rs × (are_rising 0 rs ≡ true)

rooms_format : IsFormat (List Room) rooms FitsRooms rooms_at
unfolding rooms_at
rooms_format =
    let counted = chained (word_at w16) (λ n. many room_at n) in
    only_if_format (List Room) rooms AreShortRooms (read_as (λ p. p.1) counted) (are_rising 0)
    (read_as_format (Counted Room) (List Room) (λ p. to_le_bytes w16 p.0 ++ flat_map room p.1) (λ p. (p.0 < 2 ^ 16) × (AllByRecursion IsShort p.1 × (length p.1 ≡ p.0))) counted rooms AreShortRooms (λ p. p.1)
    (λ p fits. (ap (λ (n : ℕ). to_le_bytes w16 n ++ flat_map room p.1) fits.1.1, (let len = fits.1.1 in omega (arith, len, fits.0), fits.1.0)))
    (λ rs fits. ((length rs, rs), (fits.0, (fits.1, refl)), refl))
    (chained_format ℕ (List Room) (to_le_bytes w16) (λ n. n < 2 ^ 16) (word_at w16) (λ _. flat_map room) (λ n rs. AllByRecursion IsShort rs × (length rs ≡ n)) (λ n. many room_at n)
    (word_format w16 (2 ^ 16) wide16) (λ n h. many_format Room room IsShort room_at n room_format)))

rising : (above : ℕ) (rs : List Room) → AllByRecursion IsShort rs → are_rising above rs ≡ true → Rise above rs
unfolding are_rising Rise
rising above [] short h = tt
rising above (r ∷ rs) short h =
    let a = and_parts (ltb above r.label && leb r.size 2400) (are_rising r.label rs) h in
    let b = and_parts (ltb above r.label) (leb r.size 2400) a.0 in
    (ltb-true _ _ b.0, short.0.0, leb-true _ _ b.1, rising r.label rs short.1 a.1)

rises : (above : ℕ) (rs : List Room) → Rise above rs → AllByRecursion IsShort rs × (are_rising above rs ≡ true)
unfolding are_rising Rise
rises above [] h = (tt, refl)
rises above (r ∷ rs) h =
    let more = rises r.label rs h.3 in
    let small : r.size < 2 ^ 16 = let s = h.2 in omega (arith, s) in (
      ((h.1, small), more.0),
      and_from (ltb above r.label && leb r.size 2400) (are_rising r.label rs) (and_from (ltb above r.label) (leb r.size 2400) (lt-ltb _ _ h.0) (le-leb _ _ h.2)) more.1,
    )

-- ---- entries

main_is : (fs : List Frame) → is_main_first fs ≡ true → IsMainFirst fs
main_is [] h = absurd (true≢false (sym h))
main_is (f ∷ fs) h = eqb-true _ _ h

main_again : (fs : List Frame) → IsMainFirst fs → (is_main_first fs ≡ true) × (1 ≤ length fs)
main_again [] h = absurd h
main_again (f ∷ fs) h = (eq-eqb _ _ h, omega arith)

abbrev Parts : Type 0
Parts = ℕ × (ℕ × (ℕ × (List Room × List Frame)))

abbrev spelled_parts : Parts → List ℕ
spelled_parts p = to_le_bytes w16 p.0 ++ (to_le_bytes w32 p.1.0 ++ (to_le_bytes w16 p.1.1.0 ++ (rooms p.1.1.1.0 ++ frames p.1.1.1.1)))

abbrev FitsParts : ℕ → Parts → Type 0
FitsParts maps p = (p.0 < 2 ^ 16) × ((p.1.0 < 2 ^ 32) × ((p.1.1.0 < 2 ^ 16) × (FitsRooms p.1.1.1.0 × FitsMain maps p.1.1.1.1)))

parts_format : (maps : ℕ) →
    IsFormat Parts spelled_parts (FitsParts maps) (chained (word_at w16) (λ _. chained (word_at w32) (λ _. chained (word_at w16) (λ _. chained rooms_at (λ _. frames_at maps)))))
parts_format maps =
    let two = chained_format (List Room) (List Frame) rooms FitsRooms rooms_at (λ _. frames) (λ _. FitsMain maps) (λ _. frames_at maps) rooms_format (λ x h. frames_format maps) in
    let three = chained_format ℕ (List Room × List Frame) (to_le_bytes w16) (λ n. n < 2 ^ 16) (word_at w16) (λ _ p. rooms p.0 ++ frames p.1) (λ _ p. FitsRooms p.0 × FitsMain maps p.1) (λ _. chained rooms_at (λ _. frames_at maps)) (word_format w16 (2 ^ 16) wide16) (λ x h. two) in
    let four = chained_format ℕ (ℕ × (List Room × List Frame)) (to_le_bytes w32) (λ n. n < 2 ^ 32) (word_at w32) (λ _ p. to_le_bytes w16 p.0 ++ (rooms p.1.0 ++ frames p.1.1)) (λ _ p. (p.0 < 2 ^ 16) × (FitsRooms p.1.0 × FitsMain maps p.1.1)) (λ _. chained (word_at w16) (λ _. chained rooms_at (λ _. frames_at maps))) (word_format w32 (2 ^ 32) wide32) (λ x h. three) in
    chained_format ℕ (ℕ × (ℕ × (List Room × List Frame))) (to_le_bytes w16) (λ n. n < 2 ^ 16) (word_at w16) (λ _ p. to_le_bytes w32 p.0 ++ (to_le_bytes w16 p.1.0 ++ (rooms p.1.1.0 ++ frames p.1.1.1))) (λ _ p. (p.0 < 2 ^ 32) × ((p.1.0 < 2 ^ 16) × (FitsRooms p.1.1.0 × FitsMain maps p.1.1.1))) (λ _. chained (word_at w32) (λ _. chained (word_at w16) (λ _. chained rooms_at (λ _. frames_at maps)))) (word_format w16 (2 ^ 16) wide16) (λ x h. four)

entry_shape : (maps : ℕ) (p : Parts) → FitsParts maps p → (entry (entry_of p) ≡ spelled_parts p) × FitsEntry maps (entry_of p)
entry_shape maps p fits =
    let r = fits.1.1.1.0 in
    let f = fits.1.1.1.1 in
    (refl, record { pc = fits.0; budget = fits.1.0; least = fits.1.1.0; rooms = r.0.0; rise = rising 0 p.1.1.1.0 r.0.1 r.1; few = f.0.1; main = main_is p.1.1.1.1 f.1; frames = f.0.2 })

entry_back : (maps : ℕ) (e : EntryView) → FitsEntry maps e → (p : Parts) × FitsParts maps p × (entry_of p ≡ e)
entry_back maps e fits =
    let r = rises 0 e.rooms fits.rise in
    let m = main_again e.frames fits.main in (
      (e.pc, (e.budget, (e.least, (e.rooms, e.frames)))),
      (fits.pc, (fits.budget, (fits.least, (((fits.rooms, r.0), r.1), ((m.1, fits.few, fits.frames), m.0))))),
      refl,
    )

pub entry_format : (maps : ℕ) → IsFormat EntryView entry (FitsEntry maps) (entry_at maps)
unfolding entry_at
entry_format maps =
    read_as_format Parts EntryView spelled_parts (FitsParts maps) (chained (word_at w16) (λ _. chained (word_at w32) (λ _. chained (word_at w16) (λ _. chained rooms_at (λ _. frames_at maps))))) entry (FitsEntry maps) entry_of
    (entry_shape maps) (entry_back maps) (parts_format maps)

-- ---- the whole

magic_format : IsFormat ℕ (to_le_bytes w32) (λ n. (n < 2 ^ 32) × (eqb n 843272257 ≡ true)) magic_at
unfolding magic_at
magic_format = only_if_format ℕ (to_le_bytes w32) (λ n. n < 2 ^ 32) (word_at w32) (λ n. eqb n 843272257) (word_format w32 (2 ^ 32) wide32)

hook_is : (b : ℕ) (h : Hook) → hook_named b ≡ Some h → hooks.number_of h ≡ b
hook_is b h e =
    elim (chosen (eqb b 1) (Some Association) _ (Some h) e) [
      | inl k ↦ subst (λ (x : Hook). hooks.number_of x ≡ b) (some_is Association h k.1) (sym (eqb-true b 1 k.0))
      | inr k ↦ elim (chosen (eqb b 2) (Some Addba) _ (Some h) k.1) [
        | inl l ↦ subst (λ (x : Hook). hooks.number_of x ≡ b) (some_is Addba h l.1) (sym (eqb-true b 2 l.0))
        | inr l ↦ elim (chosen (eqb b 3) (Some Data) None (Some h) l.1) [
          | inl m ↦ subst (λ (x : Hook). hooks.number_of x ≡ b) (some_is Data h m.1) (sym (eqb-true b 3 m.0))
          | inr m ↦ let e : None ≡ Some h = m.1 in absurd cc
        ]
      ]
    ]

hook_takes : (bytes : List ℕ) (x : Hook × List ℕ) → IsBytes bytes → hook_at bytes ≡ Some x → Takes bytes (hooks.number_of x.0 ∷ []) x.1 × Unit {0}
unfolding hook_at
hook_takes [] x fits e = absurd cc
hook_takes (b ∷ bytes) x fits e =
    let h = bind_some (hook_named b) (λ hook. Some (hook, bytes)) x e in
    let made : Hook × List ℕ = (h.0, bytes) in
    subst (λ (y : Hook × List ℕ). Takes (b ∷ bytes) (hooks.number_of y.0 ∷ []) y.1 × Unit {0}) (some_is made x h.2)
    (subst (λ (n : ℕ). Takes (n ∷ bytes) (hooks.number_of h.0 ∷ []) bytes) (hook_is b h.0 h.1) (record { parts = refl; rest_fits = IsBytes-rest b bytes fits }), tt)

hook_again : (h : Hook) (rest : List ℕ) → Unit {0} → hook_at ((hooks.number_of h ∷ []) ++ rest) ≡ Some (h, rest)
unfolding hook_at
hook_again Association rest fits = refl
hook_again Addba rest fits = refl
hook_again Data rest fits = refl

hook_format : IsFormat Hook (λ h. hooks.number_of h ∷ []) (λ _. Unit {0}) hook_at
hook_format = record { takes = hook_takes; again = hook_again }

abbrev FitsCode : List ℕ → Type 0
FitsCode bytes = (n : ℕ) × (n < 2 ^ 16) × (length bytes ≡ 8 * n) × AreBytes bytes

eighth : (m n : ℕ) → m ≡ 8 * n → m / 8 ≡ n
eighth m n e = omega (arith, e)

code_format : IsFormat (List ℕ) code FitsCode code_at
unfolding code_at
code_format =
    read_as_format (Counted ℕ) (List ℕ) (λ p. to_le_bytes w16 p.0 ++ p.1) (λ p. (p.0 < 2 ^ 16) × (AreBytes p.1 × (length p.1 ≡ 8 * p.0))) (chained (word_at w16) (λ n. taken (8 * n))) code FitsCode (λ p. p.1)
    (λ p fits. (ap (λ (n : ℕ). to_le_bytes w16 n ++ p.1) (eighth (length p.1) p.0 fits.1.1), (p.0, fits.0, fits.1.1, fits.1.0)))
    (λ bytes fits. ((fits.0, bytes), (fits.1, (fits.3, fits.2)), refl))
    (chained_format ℕ (List ℕ) (to_le_bytes w16) (λ n. n < 2 ^ 16) (word_at w16) (λ _ xs. xs) (λ n xs. AreBytes xs × (length xs ≡ 8 * n)) (λ n. taken (8 * n)) (word_format w16 (2 ^ 16) wide16) (λ n h. taken_format (8 * n)))

abbrev FitsEntries : ℕ → List EntryView → Type 0
FitsEntries maps es = (length es < 2 ^ 32) × AllByRecursion (FitsEntry maps) es

entries_format : (maps : ℕ) → IsFormat (List EntryView) entries (FitsEntries maps) (entries_at maps)
unfolding entries_at
entries_format maps =
    read_as_format (Counted EntryView) (List EntryView) (λ p. to_le_bytes w32 p.0 ++ flat_map entry p.1) (λ p. (p.0 < 2 ^ 32) × (AllByRecursion (FitsEntry maps) p.1 × (length p.1 ≡ p.0))) (chained (word_at w32) (λ n. many (entry_at maps) n)) entries (FitsEntries maps) (λ p. p.1)
    (λ p fits. (ap (λ (n : ℕ). to_le_bytes w32 n ++ flat_map entry p.1) fits.1.1, (let len = fits.1.1 in omega (arith, len, fits.0), fits.1.0)))
    (λ es fits. ((length es, es), (fits.0, (fits.1, refl)), refl))
    (chained_format ℕ (List EntryView) (to_le_bytes w32) (λ n. n < 2 ^ 32) (word_at w32) (λ _. flat_map entry) (λ n es. AllByRecursion (FitsEntry maps) es × (length es ≡ n)) (λ n. many (entry_at maps) n)
    (word_format w32 (2 ^ 32) wide32) (λ n h. many_format EntryView entry (FitsEntry maps) (entry_at maps) n (entry_format maps)))

abbrev All : Type 0
All = ℕ × (Hook × (List ℕ × List EntryView))

abbrev spelled_all : All → List ℕ
spelled_all p = to_le_bytes w32 p.0 ++ ((hooks.number_of p.1.0 ∷ []) ++ (code p.1.1.0 ++ entries p.1.1.1))

abbrev FitsAll : ℕ → All → Type 0
FitsAll maps p = ((p.0 < 2 ^ 32) × (eqb p.0 843272257 ≡ true)) × (Unit {0} × (FitsCode p.1.1.0 × FitsEntries maps p.1.1.1))

all_format : (maps : ℕ) → IsFormat All spelled_all (FitsAll maps) (chained magic_at (λ _. chained hook_at (λ _. chained code_at (λ _. entries_at maps))))
all_format maps =
    let two = chained_format (List ℕ) (List EntryView) code FitsCode code_at (λ _. entries) (λ _. FitsEntries maps) (λ _. entries_at maps) code_format (λ x h. entries_format maps) in
    let three = chained_format Hook (List ℕ × List EntryView) (λ h. hooks.number_of h ∷ []) (λ _. Unit {0}) hook_at (λ _ p. code p.0 ++ entries p.1) (λ _ p. FitsCode p.0 × FitsEntries maps p.1) (λ _. chained code_at (λ _. entries_at maps)) hook_format (λ x h. two) in
    chained_format ℕ (Hook × (List ℕ × List EntryView)) (to_le_bytes w32) (λ n. (n < 2 ^ 32) × (eqb n 843272257 ≡ true)) magic_at (λ _ p. (hooks.number_of p.0 ∷ []) ++ (code p.1.0 ++ entries p.1.1)) (λ _ p. Unit {0} × (FitsCode p.1.0 × FitsEntries maps p.1.1)) (λ _. chained hook_at (λ _. chained code_at (λ _. entries_at maps))) magic_format (λ x h. three)

certificate_shape : (maps : ℕ) (p : All) → FitsAll maps p → (spelling (certificate_of p) ≡ spelled_all p) × FitsCertificate maps (certificate_of p)
certificate_shape maps p fits =
    let n : p.0 ≡ 843272257 = eqb-true _ _ fits.0.1 in
    let first : magic ≡ to_le_bytes w32 p.0 = ap (to_le_bytes w32) (sym n) in
    let c = fits.1.1.0 in
    let e = fits.1.1.1 in (
      ap (λ (w : List ℕ). w ++ ((hooks.number_of p.1.0 ∷ []) ++ (code p.1.1.0 ++ entries p.1.1.1))) first,
      record { slots = c.0; few_slots = c.1; whole = c.2; bytes = c.3; few = e.0; entries = e.1 },
    )

certificate_back : (maps : ℕ) (c : CertificateView) → FitsCertificate maps c → (p : All) × FitsAll maps p × (certificate_of p ≡ c)
certificate_back maps c fits =
    ((843272257, (c.hook, (c.code, c.entries))), ((omega arith, refl), (tt, ((fits.slots, fits.few_slots, fits.whole, fits.bytes), (fits.few, fits.entries)))), refl)

pub certificate_format : (maps : ℕ) → IsFormat CertificateView spelling (FitsCertificate maps) (certificate_at maps)
unfolding certificate_at
certificate_format maps =
    read_as_format All CertificateView spelled_all (FitsAll maps) (chained magic_at (λ _. chained hook_at (λ _. chained code_at (λ _. entries_at maps)))) spelling (FitsCertificate maps) certificate_of
    (certificate_shape maps) (certificate_back maps) (all_format maps)
