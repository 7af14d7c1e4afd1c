-- How many numbers are held: those of the ring, from wherever it is read.
use Rattle.std.proofs.Common.{◌≡◌, ℕ, ◌+◌, ◌-◌, ◌%◌, ◌<◌, ◌≤◌, ◌≢◌, ⊎_elim, Bool, true, false, cond, Option, None, Some, List, [], ◌++◌, length, get_or, take, drop, refl, sym, ap, ◌∙◌, arith, map, length-append}
use Rattle.std.specs.Prelude.{nat_lt, ◌&&◌, slice_set}
use Rattle.std.specs.List.{range_with_len}
use Rattle.std.proofs.lemmas.Bool.{cases_lt, and_parts}
use Rattle.std.proofs.lemmas.Bool.Decides.{nat_tests}
use Rattle.std.proofs.lemmas.List.{ext_get_or, length-set, length-drop, length-take-le, get_or-drop, get_or-take, get_or_append_left, get_or-append_right}
use Rattle.std.proofs.lemmas.List.Sums.{sum_by-append, sum_by-take-drop}
use Rattle.std.proofs.lemmas.List.FromFn.{get_or-map-range_with_len, length-map-range_with_len}
use Rattle.blockack.specs.Window.{IsNextFree, with_item}
use Rattle.blockack.specs.Ring.{ring_at, held_count, gathered, ahead, IsSoundRing}
use Rattle.blockack.specs.Reading.{Reading, numbers_held, most_passed}
use Rattle.blockack.specs.declared.scoreboard.Bitmap.{Bitmap}
use Rattle.blockack.proofs.SlotLaws.{ring_in, weight, gathered_none}
use Rattle.blockack.proofs.MoveLaws.{with_other, not_some, slot_free, held_free, ring_put}
use Rattle.blockack.proofs.ReadingLaws.{seen}

module _ {F : Type 0} (slots : List (Option (Option F))) (start : ℕ) (len : length slots ≡ 64) where
  -- the ring from its start on: the slots from there, then those before it
  turned : map (ring_at slots start) (range_with_len 0 64) ≡ drop (start % 64) slots ++ take (start % 64) slots
  turned =
      let k : ℕ = start % 64 in
      let le : k ≤ length slots = omega (arith, len) in
      let behind : length (drop k slots) ≡ 64 - k = length-drop k slots ∙ ap (λ n. n - k) len in
      let before : length (take k slots) ≡ k = length-take-le k slots le in
      let long = length-map-range_with_len (ring_at slots start) 0 64 in
      ext_get_or None (map (ring_at slots start) (range_with_len 0 64)) (drop k slots ++ take k slots)
      (let both = length-append (drop k slots) (take k slots) in omega (arith, long, both, behind, before))
      (λ i lt.
      let l : i < 64 = omega (arith, lt, long) in
      let here = get_or-map-range_with_len (ring_at slots start) 0 64 i i None l (omega arith) ∙ ring_in slots start i l in
      ⊎_elim
      (λ from.
      let within : i < length (drop k slots) = omega (arith, from, behind) in
      let place : (start + i) % 64 ≡ k + i = omega (arith, from) in
      here ∙ ap (λ n. get_or slots n None) place ∙ sym (get_or-drop k slots i None) ∙ sym (get_or_append_left (drop k slots) (take k slots) None i within))
      (λ past.
      let place : (start + i) % 64 ≡ i - (64 - k) = omega (arith, past, l) in
      let low : i - (64 - k) < k = omega (arith, past, l) in
      here ∙ ap (λ n. get_or slots n None) place ∙ sym (get_or-take k slots (i - (64 - k)) None low)
      ∙ sym (get_or-append_right (drop k slots) (take k slots) (64 - k) i None behind past))
      (cases_lt i (64 - k)))

  -- a reading of the ring holds as many numbers as the ring does
  pub held_in_all : (size : ℕ) (bitmap : Bitmap) → numbers_held (seen slots start size bitmap) ≡ held_count slots
  unfolding numbers_held held_count
  held_in_all size bitmap =
      let k : ℕ = start % 64 in
      let all = sum_by-take-drop weight slots k in
      let parts = sum_by-append weight (drop k slots) (take k slots) in
      ap (λ (xs : List (Option (Option F))). held_count xs) turned ∙ parts ∙ omega (arith, all)

module _ {F : Type 0} (slots : List (Option (Option F))) (start size number : ℕ) (item : Option F) (sound : IsSoundRing slots start size) where
  -- data after the first number, within the window, is only held
  waits : 0 < ahead start number → ahead start number < size → (passed : ℕ) →
      IsNextFree (with_item (ring_at slots start) (ahead start number) item) (ahead start number + 1 - size) passed → passed ≡ 0
  waits behind within passed next =
      let ne : 0 ≡ ahead start number → ⊥ = λ e. omega (arith, e, behind) in
      ⊎_elim
      (λ more. absurd (not_some (with_item (ring_at slots start) (ahead start number) item 0) (with_other (ring_at slots start) (ahead start number) item 0 ne ∙ sound.front) (next.full 0 (omega (arith, within)) more)))
      (λ none. omega (arith, none))
      (cases_lt 0 passed)

  waiting_passes_none : 0 < ahead start number → ahead start number < size → (passed : ℕ) →
      IsNextFree (with_item (ring_at slots start) (ahead start number) item) (ahead start number + 1 - size) passed →
      gathered (with_item (ring_at slots start) (ahead start number) item) start passed ≡ []
  waiting_passes_none behind within passed next =
      let items = with_item (ring_at slots start) (ahead start number) item in
      ap (λ n. gathered items start n) (waits behind within passed next) ∙ gathered_none items start

  -- data passes up no more than it may
  pub few_passed : (bitmap : Bitmap) (passed : ℕ) (out : List (ℕ × F)) →
      IsNextFree (with_item (ring_at slots start) (ahead start number) item) (ahead start number + 1 - size) passed →
      out ≡ gathered (with_item (ring_at slots start) (ahead start number) item) start passed → length out ≤ held_count slots + 1 →
      length out ≤ most_passed (seen slots start size bitmap) number
  few_passed bitmap passed out next frames few = by (nat_lt 0 (ahead start number) && nat_lt (ahead start number) size) refl
    where
      by : (b : Bool) → (nat_lt 0 (ahead start number) && nat_lt (ahead start number) size) ≡ b → length out ≤ cond b 0 (numbers_held (seen slots start size bitmap) + 1)
      by true e =
          let parts = and_parts (nat_lt 0 (ahead start number)) (nat_lt (ahead start number) size) e in
          let first = parts.0 in
          let second = parts.1 in
          let behind : 0 < ahead start number = grind (arith, nat_tests) in
          let within : ahead start number < size = grind (arith, nat_tests) in
          let none = ap (λ (xs : List (ℕ × F)). length xs) (frames ∙ waiting_passes_none behind within passed next) in
          omega (arith, none)
      by false e = let held = held_in_all slots start sound.long size bitmap in omega (arith, held, few)

  -- data within the window, after its first number, passes no slot
  pub waits_free : 0 < ahead start number → ahead start number < size → IsNextFree (with_item (ring_at slots start) (ahead start number) item) (ahead start number + 1 - size) 0
  waits_free behind within =
      let ne : 0 ≢ ahead start number = λ e. omega (arith, e, behind) in
      record {
        above = omega (arith, within);
        free = with_other (ring_at slots start) (ahead start number) item 0 ne ∙ sound.front;
        full = λ k le lt. absurd (omega (arith, lt));
      }

  -- the ring after such data was stored
  module _ (slots2 : List (Option (Option F))) (fits : number < 4096) (is : slots2 ≡ slice_set slots (number % 64) (Some item)) (behind : 0 < ahead start number) (within : ahead start number < size) where
    pub waiting_ring : (i : ℕ) → ring_at slots2 start i ≡ with_item (ring_at slots start) (ahead start number) item i
    waiting_ring i =
        let sfits = sound.start_fits in
        let lt : ahead start number < 64 = omega (arith, within, sound.size_fits) in
        let place : number % 64 ≡ (start + ahead start number) % 64 = omega (arith, fits, sfits) in
        ap (λ s. ring_at s start i) is ∙ ring_put slots start (ahead start number) (number % 64) item sound.long lt place i

    pub waiting_sound : IsSoundRing slots2 start size
    waiting_sound =
        record {
          long = ap length is ∙ length-set slots (number % 64) (Some item) ∙ sound.long;
          start_fits = sound.start_fits;
          some_size = sound.some_size;
          size_fits = sound.size_fits;
          front = waiting_ring 0 ∙ with_other (ring_at slots start) (ahead start number) item 0 (λ e. omega (arith, e, behind)) ∙ sound.front;
          past = λ i le. waiting_ring i ∙ with_other (ring_at slots start) (ahead start number) item i (λ e. omega (arith, e, within, le)) ∙ sound.past i le;
        }

-- where data may pass up nothing, it waits
pub waits_within : {F : Type 0} (v : Reading F) (number : ℕ) → most_passed v number ≡ 0 → (0 < ahead v.start number) × (ahead v.start number < v.size)
waits_within v number none = by (nat_lt 0 (ahead v.start number) && nat_lt (ahead v.start number) v.size) refl none
  where
    by : (b : Bool) → (nat_lt 0 (ahead v.start number) && nat_lt (ahead v.start number) v.size) ≡ b → cond b 0 (numbers_held v + 1) ≡ 0 → (0 < ahead v.start number) × (ahead v.start number < v.size)
    by true e z =
        let parts = and_parts (nat_lt 0 (ahead v.start number)) (nat_lt (ahead v.start number) v.size) e in
        let first = parts.0 in
        let second = parts.1 in
        (grind (arith, nat_tests), grind (arith, nat_tests))
    by false e z = absurd (omega (arith, z))

-- data that doesn't wait may pass up one frame more than are held
pub most_of : {F : Type 0} (v : Reading F) (number : ℕ) → (0 < ahead v.start number → ahead v.start number < v.size → ⊥) → numbers_held v + 1 ≡ most_passed v number
most_of v number not = by (nat_lt 0 (ahead v.start number) && nat_lt (ahead v.start number) v.size) refl
  where
    by : (b : Bool) → (nat_lt 0 (ahead v.start number) && nat_lt (ahead v.start number) v.size) ≡ b → numbers_held v + 1 ≡ cond b 0 (numbers_held v + 1)
    by true e =
        let parts = and_parts (nat_lt 0 (ahead v.start number)) (nat_lt (ahead v.start number) v.size) e in
        let first = parts.0 in
        let second = parts.1 in
        absurd (not (grind (arith, nat_tests)) (grind (arith, nat_tests)))
    by false e = refl

-- the first slot is empty, so there is room for one more
pub room_for_one : {F : Type 0} (slots : List (Option (Option F))) (start size : ℕ) (bitmap : Bitmap) → IsSoundRing slots start size → numbers_held (seen slots start size bitmap) + 1 ≤ 64
room_for_one slots start size bitmap sound =
    let place : start % 64 ≡ (start + 0) % 64 = omega arith in
    let zero64 : 0 < 64 = omega arith in
    let lt : start % 64 < length slots = omega (arith, sound.long) in
    let free = held_free slots (start % 64) lt (slot_free slots start 0 (start % 64) zero64 place sound.front) in
    omega (arith, free, sound.long, held_in_all slots start sound.long size bitmap)
