-- What an included value or slot contains is in the one that includes it.
use Rattle.std.proofs.Common.{◌≡◌, ℕ, zero, suc, add-zero, [], ◌∷◌, ◌+◌, ◌*◌, ◌<◌, ◌^◌, ◌&&◌, ◌==◌, List, true, false, Option, Some, None, Result, Ok, Err, refl, ap, sym, subst, ◌∙◌, arith, bit_and, if◌then◌else◌, slice_get, slice_index_or}
use Rattle.std.specs.Int.{bit_at}
use Rattle.std.proofs.lemmas.Bool.{false≢true, true≢false, leb-true, eqb-true, and_parts}
use Rattle.std.proofs.lemmas.Nat.Bits.{bit_at_and, bit_at-zero, bit_at-lt}
use Rattle.bpf_regions.specs.declared.memory.Value.{Value}
use Rattle.bpf_regions.specs.declared.memory.Value.TheVariants as value
use Rattle.bpf_regions.specs.declared.memory.Region.{Region}
use Rattle.bpf_regions.specs.declared.memory.Region.TheVariants as region
use Rattle.bpf_model.specs.declared.StackFrame.{StackFrame}
use Rattle.bpf_model.specs.Alu.{is_unset}
use Rattle.bpf_model.specs.Memory.{set_byte, set_bytes}
use Rattle.bpf_model.proofs.SetBytes.{joined_parts, set_byte_is}
use Rattle.bpf_absnum.specs.Number.{Num, num_included}
use Rattle.bpf_absnum.proofs.Inclusion.{included_keeps}
use Rattle.bpf_absval.specs.declared.value.AbsRegion.{AbsRegion}
use Rattle.bpf_absval.specs.declared.value.AbsRegion.TheVariants as place
use Rattle.bpf_absval.specs.declared.value.AbsVal.TheVariants as abs
use Rattle.bpf_absval.specs.declared.value.Label.{Label}
use Rattle.bpf_absval.specs.declared.slot.AbsSlot.TheVariants as slot
use Rattle.bpf_absval.specs.declared.room.Room.{Room}
use Rattle.bpf_absval.specs.Rooms.{find_room}
use Rattle.bpf_absval.specs.Meaning.{Labels, RoomHolds, LabelHolds, RegionHolds, Holds, AreSet, IsStackFrame, is_number, held, number_held}
use Rattle.bpf_absval.specs.Inclusion.{region_same, room_included, label_included}
use Rattle.bpf_absval.specs.Laws.{ValueKeeps, SlotKeeps}

region_keeps : (e : Labels) (a b : AbsRegion) (r : Region) → region_same a b ≡ true → RegionHolds e a r → RegionHolds e b r
region_keeps e place.Context place.Context r t h = h
region_keeps e (place.Stack i) (place.Stack j) (region.Stack k) t h = sym (eqb-true i j t) ∙ h
region_keeps e (place.Stack i) (place.Stack j) r t h = absurd h
region_keeps e (place.Entry i) (place.Entry j) (region.Entry n index) t h = (sym (eqb-true i j t) ∙ h.0, h.1)
region_keeps e (place.Entry i) (place.Entry j) r t h = absurd h
region_keeps e a b r t h = absurd (false≢true t)

room_keeps : (e : Labels) (label : ℕ) (a b : Option ℕ) → room_included a b ≡ true → RoomHolds e label a → RoomHolds e label b
room_keeps e label a None t h = tt
room_keeps e label (Some known) (Some needed) t h = omega (arith, leb-true _ _ t, h)
room_keeps e label None (Some needed) t h = absurd (false≢true t)

label_keeps : (e : Labels) (rooms others : List Room) (a b : Option Label) (x : ℕ) → label_included rooms others a b ≡ true → LabelHolds e rooms a x → LabelHolds e others b x
label_keeps e rooms others a None x t h = tt
label_keeps e rooms others None (Some l) x t h = absurd (false≢true t)
label_keeps e rooms others (Some k) (Some l) x t h =
    let both = and_parts (k.label == l.label && k.distance == l.distance) (room_included (find_room rooms l.label) (find_room others l.label)) t in
    let same = and_parts (k.label == l.label) (k.distance == l.distance) both.0 in
    let label : k.label ≡ l.label = eqb-true k.label l.label same.0 in
    let distance : k.distance ≡ l.distance = eqb-true k.distance l.distance same.1 in
    record {
      word = subst (λ n. e.base n < 2 ^ 64) label h.word;
      far = rw (← label, ← distance) h.far;
      room = room_keeps e l.label (find_room rooms l.label) (find_room others l.label) both.1 (subst (λ n. RoomHolds e n (find_room rooms n)) label h.room);
    }

pub value_keeps : ValueKeeps
value_keeps e rooms others a abs.Unset v w t h = tt
value_keeps e rooms others (abs.Number a) (abs.Number b) (value.Number x) w t h = included_keeps a b x w t h
value_keeps e rooms others (abs.Number a) (abs.Number b) v w t h = absurd h
value_keeps e rooms others (abs.Frame a k) (abs.Frame b l) (value.Pointer region.Frame x) w t h =
    let both = and_parts (num_included a b) (label_included rooms others k l) t in
    (included_keeps a b x w both.0 h.0, label_keeps e rooms others k l x both.1 h.1)
value_keeps e rooms others (abs.Frame a k) (abs.Frame b l) v w t h = absurd h
value_keeps e rooms others (abs.Pointer r a) (abs.Pointer s b) (value.Pointer at x) w t h =
    let both = and_parts (region_same r s) (num_included a b) t in
    (region_keeps e r s at both.0 h.0, included_keeps a b x w both.1 h.1)
value_keeps e rooms others (abs.Pointer r a) (abs.Pointer s b) v w t h = absurd h
value_keeps e rooms others abs.FrameEnd abs.FrameEnd v w t h = h
value_keeps e rooms others (abs.MapReference m) (abs.MapReference n) v w t h = subst (λ k. Holds e others (abs.MapReference k) v) (eqb-true m n t) h
value_keeps e rooms others (abs.Lookup m) (abs.Lookup n) v w t h = subst (λ k. Holds e others (abs.Lookup k) v) (eqb-true m n t) h
value_keeps e rooms others a b v w t h = absurd (false≢true t)

-- ---- the bytes of a slot

-- a byte that is read exists
there : (xs : List (Option ℕ)) (i b : ℕ) → slice_index_or xs i None ≡ Some b → slice_get xs i ≡ Some (Some b)
there [] i b e = absurd (cc)
there (x ∷ xs) zero b e = ap Some e
there (x ∷ xs) (suc i) b e = there xs i b e

-- if n bytes spell a number, each is set
all_set : (f : StackFrame) (at n x : ℕ) → set_bytes f at n ≡ Ok x → (j : ℕ) → j < n → (b : ℕ) × (slice_get f.bytes (at + j) ≡ Some (Some b))
unfolding set_bytes
all_set f at zero x e j l = absurd (omega (arith, l))
all_set f at (suc n) x e zero l =
    let one = set_byte_is f at (slice_index_or f.bytes at None) _ (joined_parts (set_byte f at (slice_index_or f.bytes at None)) (set_bytes f (at + 1) n) x e).0.1 in
    (one.0, subst (λ k. slice_get f.bytes k ≡ Some (Some one.0)) (sym (add-zero at)) (there f.bytes at one.0 one.1))
all_set f at (suc n) x e (suc j) l =
    let within : j < n = omega (arith, l) in
    let rest = all_set f (at + 1) n _ (joined_parts (set_byte f at (slice_index_or f.bytes at None)) (set_bytes f (at + 1) n) x e).1.1 j within in
    let same : at + 1 + j ≡ at + suc j = omega arith in
    (rest.0, subst (λ k. slice_get f.bytes k ≡ Some (Some rest.0)) same rest.1)

-- a slot that holds a number spells it
spells : (e : Labels) (rooms : List Room) (a : Num) (spill : Value) (r : Result ℕ ℕ) → is_number spill ≡ false
    → Holds e rooms (abs.Number a) (if is_unset spill then number_held r else spill) → (x : ℕ) × (r ≡ Ok x)
spells e rooms a value.Unset (Ok x) n h = (x, refl)
spells e rooms a value.Unset (Err cause) n h = absurd h
spells e rooms a (value.Number x) r n h = absurd (true≢false n)
spells e rooms a spill r n h = absurd h

number_sets : (e : Labels) (rooms : List Room) (a : Num) (f : StackFrame) (i needed : ℕ) → IsStackFrame f → Holds e rooms (abs.Number a) (held f i) → AreSet needed f i
number_sets e rooms a f i needed s h j within is =
    let spelt = spells e rooms a (slice_index_or f.spills i value.Unset) (set_bytes f (8 * i) 8) (s.references i) h in
    all_set f (8 * i) 8 spelt.0 spelt.1 j within

-- each needed byte is set
is_among : (set needed j : ℕ) → (bit_and set needed == needed) ≡ true → bit_at needed j ≡ 1 → bit_at set j ≡ 1
is_among set needed j t is =
    let same : bit_and set needed ≡ needed = eqb-true (bit_and set needed) needed t in
    omega (arith, bit_at_and set needed j, ap (λ n. bit_at n j) same, bit_at-lt set j)

none_set : (f : StackFrame) (i needed : ℕ) → (bit_and 0 needed == needed) ≡ true → AreSet needed f i
none_set f i needed t j within is = absurd (omega (arith, is_among 0 needed j t is, bit_at-zero j))

pub slot_keeps : SlotKeeps
slot_keeps e rooms others a slot.Unset f i s w t h = tt
slot_keeps e rooms others (slot.Stored a) (slot.Stored b) f i s w t h = value_keeps e rooms others a b (held f i) w t h
slot_keeps e rooms others a (slot.Stored b) f i s w t h = absurd (false≢true t)
slot_keeps e rooms others (slot.Stored (abs.Number a)) (slot.Bytes needed) f i s w t h = number_sets e rooms a f i needed s h
slot_keeps e rooms others (slot.Bytes mask) (slot.Bytes needed) f i s w t h = λ j within is. h j within (is_among mask needed j t is)
slot_keeps e rooms others a (slot.Bytes needed) f i s w t h = none_set f i needed t
