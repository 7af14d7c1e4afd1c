-- Where an access lies.
use Rattle.std.specs.Prelude.{◌==◌, ◌&&◌, ◌||◌, nat_le, nat_lt, slice_get, ℤ}
use Rattle.std.proofs.Common.{ℕ, zero, suc, ◌≡◌, ◌+◌, ◌-◌, ◌*◌, ◌/◌, ◌%◌, ◌^◌, ◌<◌, ◌≤◌, ⊎_elim, Bool, true, false, cond, List, length, Option, Some, None, Result, Ok, Err, slice_index, refl, sym, ap, ◌∙◌, arith, bit_and, bit_or}
use Rattle.std.specs.Int.Bits.{and_zero_r}
use Rattle.std.proofs.lemmas.Bool.{and_parts, or_cases, eqb-true, leb-true, le-leb, lt-ltb, ltb-true, eq-eqb, cases_lt}
use Rattle.std.proofs.lemmas.Nat.{and_assoc, and_mask, pow-add}
use Rattle.std.proofs.lemmas.Option.{slice_get-get_or}
use Rattle.std.proofs.lemmas.List.{get_or_past}
use Rattle.bpf_insn.specs.declared.insn.AluOp.TheVariants.{Add}
use Rattle.bpf_insn.specs.declared.insn.Size.{Size}
use Rattle.bpf_insn.specs.declared.insn.Size.TheVariants as size
use Rattle.bpf_regions.specs.declared.maps.Shape.{Shape}
use Rattle.bpf_regions.specs.Maps.{bytes_of, entry_bytes}
use Rattle.bpf_words.specs.Word.{word_add, word_of}
use Rattle.bpf_model.specs.declared.Place.{Place}
use Rattle.bpf_model.specs.declared.Place.TheVariants.{Stack as InStack, Word as InWord}
use Rattle.bpf_model.specs.Memory.{size_bytes, place_in_map, number_at, as_loaded}
use Rattle.bpf_model.specs.Run.{AreBytes}
use Rattle.bpf_tnum.proofs.Contains.{most_is_or, within_most}
use Rattle.bpf_absnum.specs.Number.{Num, InNum, num_single, is_single}
use Rattle.bpf_absnum.proofs.Rows.{single_keeps, single_is}
use Rattle.bpf_absnum.proofs.Instructions.{alu_keeps, loaded_keeps, loaded_signed_keeps}
use Rattle.bpf_regions.specs.declared.memory.Value.TheVariants as value
use Rattle.bpf_absval.specs.declared.value.Label.{Label}
use Rattle.bpf_absval.specs.declared.room.Room.{Room}
use Rattle.bpf_absval.specs.Meaning.{Labels, Holds, RoomHolds, IsLabelled, LabelHolds, IsEntry}
use Rattle.bpf_absval.specs.Rooms.{find_room}
use Rattle.bpf_absstate.specs.View.{View}
use Rattle.bpf_rules.specs.declared.fault.Fault.TheVariants as fault
use Rattle.bpf_rules.specs.Memory.{loaded, offset_of, are_multiples, room_reaches, in_room, frame_fault, context_fault, entry_fault, stack_fault, aligned_fault}
use Rattle.bpf_sound_memory.proofs.Outcomes.{passed}

-- ---- sizes

-- 1, 2, 4 or 8 bytes
pub record IsSize (n : ℕ) : Type 0 where
  pub some : 1 ≤ n
  pub few : n ≤ 8
  pub power : ℕ
  pub is_power : n ≡ 2 ^ power

pub size_is : (s : Size) → IsSize (size_bytes s)
size_is size.Byte = record { some = omega arith; few = omega arith; power = 0; is_power = refl }
size_is size.Half = record { some = omega arith; few = omega arith; power = 1; is_power = refl }
size_is size.Word = record { some = omega arith; few = omega arith; power = 2; is_power = refl }
size_is size.Double = record { some = omega arith; few = omega arith; power = 3; is_power = refl }

-- ---- offsets

pub offset_keeps : (offset : Num) (x : ℕ) (by : ℤ) → word_of by < 2 ^ 64 → InNum offset x → InNum (offset_of offset by) (word_add x (word_of by))
offset_keeps offset x by fits h = alu_keeps true Add offset (num_single (word_of by)) x (word_of by) h (single_keeps (word_of by) fits)

-- low bits known to be 0
pub multiple : (n : ℕ) (at : Num) (x : ℕ) → IsSize n → InNum at x → are_multiples n at ≡ true → x % n ≡ 0
multiple n at x s h t =
    let m = bit_or at.bits.value at.bits.mask in
    let none : bit_and m (n - 1) ≡ 0 = eqb-true (bit_and m (n - 1)) 0 t in
    let within : bit_and x m ≡ x = ap (bit_and x) (most_is_or at.bits x h.known) ∙ within_most at.bits x h.known in
    ap (λ k. x % k) s.is_power ∙ sym (and_mask x s.power) ∙ ap (λ k. bit_and x (k - 1)) (sym s.is_power)
    ∙ ap (λ k. bit_and k (n - 1)) (sym within) ∙ and_assoc (n - 1) x m ∙ ap (bit_and x) none ∙ and_zero_r x

-- ---- in the frame

-- within a label's room
room_fits : (e : Labels) (rooms : List Room) (l : Label) (by : ℤ) (n x : ℕ) (o : Option ℕ) → IsLabelled e rooms l x →
    RoomHolds e l.label o → room_reaches o (word_add l.distance (word_of by) + n) ≡ true → word_add x (word_of by) + n ≤ length e.setting.frame
room_fits e rooms l by n x (Some size) h holds t =
    let reach : word_add l.distance (word_of by) + n ≤ size = leb-true (word_add l.distance (word_of by) + n) size t in
    let far : word_add x (word_of by) ≡ word_add (e.base l.label) (word_add l.distance (word_of by)) =
    ap (λ k. word_add k (word_of by)) h.far ∙ regrouped (e.base l.label) l.distance (word_of by) in
    omega (arith, at_most (e.base l.label) (word_add l.distance (word_of by)))
  where
    regrouped : (b d w : ℕ) → ((b + d) % 2 ^ 64 + w) % 2 ^ 64 ≡ (b + (d + w) % 2 ^ 64) % 2 ^ 64
    regrouped b d w = omega arith

    at_most : (b d : ℕ) → (b + d) % 2 ^ 64 ≤ b + d
    at_most b d = omega arith
room_fits e rooms l by n x None h holds t = absurd (cc)

in_room_fits : (e : Labels) (rooms : List Room) (l : Option Label) (by : ℤ) (n x : ℕ) → LabelHolds e rooms l x →
    in_room rooms l by n ≡ true → word_add x (word_of by) + n ≤ length e.setting.frame
in_room_fits e rooms (Some l) by n x h t = room_fits e rooms l by n x (find_room rooms l.label) h h.room t
in_room_fits e rooms None by n x h t = absurd (cc)

pub frame_fits : (e : Labels) (a : View) (offset : Num) (l : Option Label) (by : ℤ) (n x : ℕ) → a.least ≤ length e.setting.frame →
    word_of by < 2 ^ 64 → InNum offset x → LabelHolds e a.rooms l x → frame_fault a offset l by n ≡ None → word_add x (word_of by) + n ≤ length e.setting.frame
frame_fits e a offset l by n x least fits h k t =
    ⊎_elim
    (λ below.
    let reach = leb-true ((offset_of offset by).range.high + n) a.least below in
    omega (arith, reach, (offset_keeps offset x by fits h).within.below))
    (λ room. in_room_fits e a.rooms l by n x k room)
    (or_cases (nat_le ((offset_of offset by).range.high + n) a.least) (in_room a.rooms l by n)
    (passed (nat_le ((offset_of offset by).range.high + n) a.least || in_room a.rooms l by n) fault.OutsideRegion t))

-- ---- in the context

pub context_fits : (at : Num) (n x : ℕ) → InNum at x → context_fault at n ≡ None → x + n ≤ 32
context_fits at n x h t =
    omega (arith, leb-true (at.range.high + n) 32 (passed (nat_le (at.range.high + n) 32) fault.OutsideRegion t), h.within.below)

-- ---- in a stack frame

pub record IsInStack (a : View) (k n : ℕ) (at : Num) (x : ℕ) : Type 0 where
  pub offset : at.range.low ≡ x
  pub lives : k < length a.frames
  pub room : x + n ≤ 512

pub stack_fits : (a : View) (k : ℕ) (at : Num) (n x : ℕ) → InNum at x → stack_fault a k at n ≡ None → IsInStack a k n at x
stack_fits a k at n x h t =
    let tests = passed (is_single at && nat_lt k (length a.frames) && nat_le (at.range.low + n) 512) fault.OutsideRegion t in
    let outer = and_parts (is_single at && nat_lt k (length a.frames)) (nat_le (at.range.low + n) 512) tests in
    let inner = and_parts (is_single at) (nat_lt k (length a.frames)) outer.0 in
    let same : at.range.low ≡ x = single_is at x inner.0 h in
    record {
      offset = same;
      lives = ltb-true k (length a.frames) inner.1;
      room = omega (arith, leb-true (at.range.low + n) 512 outer.1);
    }

pub aligned_fits : (a : View) (k : ℕ) (at : Num) (n x : ℕ) → IsSize n → InNum at x → aligned_fault a k at n ≡ None → (x % n ≡ 0) × IsInStack a k n at x
aligned_fits a k at n x s h t =
    let parts = by_test (are_multiples n at) t in
    (multiple n at x s h parts.0, stack_fits a k at n x h parts.1)
  where
    by_test : (b : Bool) → cond b (stack_fault a k at n) (Some fault.Misaligned) ≡ None → (b ≡ true) × (stack_fault a k at n ≡ None)
    by_test true t = (refl, t)
    by_test false t = absurd (cc)

-- the machine finds the place
pub stack_placed : (k x n depth : ℕ) → k < depth → x + n ≤ 512 → ◌≡◌ {A = Result Place ℕ} (cond (nat_lt k depth && nat_le (x + n) 512) (Ok (InStack k x)) (Err 32)) (Ok (InStack k x))
stack_placed k x n depth lives room = by_tests (nat_lt k depth) (nat_le (x + n) 512) (lt-ltb k depth lives) (le-leb (x + n) 512 room)
  where
    by_tests : (b c : Bool) → b ≡ true → c ≡ true → ◌≡◌ {A = Result Place ℕ} (cond (b && c) (Ok (InStack k x)) (Err 32)) (Ok (InStack k x))
    by_tests true true p q = refl
    by_tests b c p q = absurd (cc)

-- ---- in a map's entry

pub record IsInEntry (shapes : List Shape) (map index n x : ℕ) : Type 0 where
  pub shape : Shape
  pub known : slice_get shapes map ≡ Some shape
  pub width : n ≡ bytes_of shape.width
  pub word : ℕ
  pub place : place_in_map map index x n (slice_get shapes map) ≡ Ok (InWord map word)

entry_parts : (shape : Shape) (at : Num) (n : ℕ) → entry_fault (Some shape) at n ≡ None →
    ((n == bytes_of shape.width) ≡ true) × (are_multiples n at ≡ true) × (nat_le (at.range.high + n) (entry_bytes shape) ≡ true)
entry_parts shape at n t = by_tests (n == bytes_of shape.width) (are_multiples n at) (nat_le (at.range.high + n) (entry_bytes shape)) t
  where
    by_tests : (x y z : Bool) → cond (x && y) (cond z None (Some fault.OutsideRegion)) (Some fault.Misaligned) ≡ None → (x ≡ true) × (y ≡ true) × (z ≡ true)
    by_tests true true true t = (refl, refl, refl)
    by_tests true true false t = absurd (cc)
    by_tests true false z t = absurd (cc)
    by_tests false y z t = absurd (cc)

pub entry_fits : (shapes : List Shape) (map index : ℕ) (at : Num) (n x : ℕ) → IsSize n → IsEntry shapes map index → InNum at x →
    entry_fault (slice_get shapes map) at n ≡ None → IsInEntry shapes map index n x
entry_fits shapes map index at n x s entry h t =
    let shape = entry.shape in
    let parts = entry_parts shape at n (sym (ap (λ o. entry_fault o at n) entry.known) ∙ t) in
    let aligned : (x % n == 0) ≡ true = eq-eqb (x % n) 0 (multiple n at x s h parts.1) in
    let index_in : nat_lt index shape.entries ≡ true = lt-ltb index shape.entries entry.within in
    let offset_in : nat_le (x + n) (entry_bytes shape) ≡ true =
    le-leb (x + n) (entry_bytes shape) (omega (arith, leb-true (at.range.high + n) (entry_bytes shape) parts.2, h.within.below)) in
    let word = index * shape.words + x / n in
    record {
      shape = shape;
      known = entry.known;
      width = eqb-true n (bytes_of shape.width) parts.0;
      word = word;
      place =
          ap (place_in_map map index x n) entry.known
          ∙ by_tests (n == bytes_of shape.width) (x % n == 0) (nat_lt index shape.entries) (nat_le (x + n) (entry_bytes shape)) word parts.0 aligned index_in offset_in;
    }
  where
    by_tests : (b c d f : Bool) (word : ℕ) → b ≡ true → c ≡ true → d ≡ true → f ≡ true →
        ◌≡◌ {A = Result Place ℕ} (cond (b && c) (cond (d && f) (Ok (InWord map word)) (Err 32)) (Err 33)) (Ok (InWord map word))
    by_tests true true true true word p q r s = refl
    by_tests b c d f word p q r s = absurd (cc)

-- ---- numbers of bytes

byte_below : (bytes : List ℕ) (i : ℕ) → AreBytes bytes → slice_index bytes i < 256
byte_below bytes i h =
    ⊎_elim
    (λ within. h i (slice_index bytes i) (slice_get-get_or bytes i 0 within))
    (λ past. omega (arith, get_or_past bytes i 0 past))
    (cases_lt i (length bytes))

pub number_below : (bytes : List ℕ) (at n : ℕ) → AreBytes bytes → number_at bytes at n < 2 ^ (8 * n)
unfolding number_at
number_below bytes at zero h = omega arith
number_below bytes at (suc n) h =
    let e : 8 * suc n ≡ 8 * n + 8 = omega arith in
    let more : 2 ^ (8 * suc n) ≡ 2 ^ (8 * n) * 256 = ap (λ k. 2 ^ k) e ∙ pow-add 2 (8 * n) 8 in
    omega (arith, more, byte_below bytes at h, number_below bytes (at + 1) n h)

-- a load of n bytes contains each number of n bytes
pub loaded_holds : (e : Labels) (rooms : List Room) (signed : Bool) (n x : ℕ) → IsSize n → x < 2 ^ (8 * n) → Holds e rooms (loaded signed n) (value.Number (as_loaded signed n x))
loaded_holds e rooms true n x s small = loaded_signed_keeps (8 * n) x (omega (arith, s.some)) (omega (arith, s.few))
loaded_holds e rooms false n x s small = loaded_keeps (8 * n) x (omega (arith, s.few)) small
