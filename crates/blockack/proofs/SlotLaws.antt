-- Lemmas on the ring of slots.
use Rattle.std.proofs.Common.{◌≡◌, ℕ, ◌+◌, ◌%◌, ◌<◌, ◌≤◌, ◌≢◌, ◌⊎◌, inl, inr, ⊎_elim, true, false, cond, Option, None, Some, List, [], ◌∷◌, ◌++◌, suc, length, get_or, refl, sym, ap, ◌∙◌, subst, arith, add-one, length-append}
use Rattle.std.specs.Prelude.{is_some, IsSome, slice_set}
use Rattle.std.proofs.lemmas.Bool.{cases_lt}
use Rattle.std.proofs.lemmas.Bool.Decides.{nat_tests}
use Rattle.std.proofs.lemmas.List.{get_or-set_other, get_or-set_same, get_or_past}
use Rattle.std.proofs.lemmas.List.Sums.{sum_by-set, sum_by-le, sum_by-cons}
use Rattle.std.proofs.lemmas.List.Elements.{All-from_get_or}
use Rattle.std.proofs.lemmas.Grind.{common_steps}
use Rattle.blockack.specs.Window.{Items}
use Rattle.blockack.specs.Passed.{frame_of}
use Rattle.blockack.specs.Ring.{ring_at, held_count, gathered}

pub mod_step : (a i : ℕ) → ((a + 1) % 4096 + i) % 64 ≡ (a + (1 + i)) % 64
mod_step a i = omega arith

pub mod_apart : (a i : ℕ) → i < 63 → ((a + 1) % 4096 + i) % 64 ≢ a % 64
mod_apart a i h e = omega arith

pub mod_last : (a : ℕ) → ((a + 1) % 4096 + 63) % 64 ≡ a % 64
mod_last a = omega arith

pub mod_next : (a j : ℕ) → ((a + j) % 4096 + 1) % 4096 ≡ (a + (j + 1)) % 4096
mod_next a j = omega arith

pub none_some : false ≡ true → ⊥
none_some e = cc

module _ {F : Type 0} where
  pub ring_in : (slots : List (Option (Option F))) (start i : ℕ) → i < 64 → ring_at slots start i ≡ get_or slots ((start + i) % 64) None
  unfolding ring_at
  ring_in slots start i h = grind (arith, nat_tests)

  pub ring_out : (slots : List (Option (Option F))) (start i : ℕ) → 64 ≤ i → ring_at slots start i ≡ None
  unfolding ring_at
  ring_out slots start i h = grind (arith, nat_tests)

  pub gathered_none : (h : Items F) (start : ℕ) → gathered h start 0 ≡ []
  unfolding gathered
  gathered_none h start = refl

  pub gathered_more : (h : Items F) (start j : ℕ) → gathered h start (j + 1) ≡ gathered h start j ++ frame_of ((start + j) % 4096) (h j)
  unfolding gathered
  gathered_more h start j = rw add-one refl

  -- the ring after its first slot was emptied and passed
  pub ring_step : (slots : List (Option (Option F))) (a i : ℕ) → length slots ≡ 64 → ring_at (slice_set slots (a % 64) None) ((a + 1) % 4096) i ≡ ring_at slots a (1 + i)
  ring_step slots a i len =
      let within : a % 64 < length slots = omega arith in
      elim (cases_lt i 63) as (λ _. ring_at (slice_set slots (a % 64) None) ((a + 1) % 4096) i ≡ ring_at slots a (1 + i)) [
        | inl h ↦
            let lt : i < 64 = omega arith in
            let lt1 : 1 + i < 64 = omega arith in
            let ne : ((a + 1) % 4096 + i) % 64 ≢ a % 64 = mod_apart a i h in
            ring_in (slice_set slots (a % 64) None) ((a + 1) % 4096) i lt ∙ get_or-set_other slots (a % 64) (((a + 1) % 4096 + i) % 64) None None ne ∙ ap (λ k. get_or slots k None) (mod_step a i) ∙ sym (ring_in slots a (1 + i) lt1)
        | inr h ↦
            let out1 : 64 ≤ 1 + i = omega arith in
            let right = ring_out slots a (1 + i) out1 in
            elim (cases_lt i 64) as (λ _. ring_at (slice_set slots (a % 64) None) ((a + 1) % 4096) i ≡ ring_at slots a (1 + i)) [
              | inl lt ↦
                  let e : i ≡ 63 = omega arith in
                  let p : ((a + 1) % 4096 + i) % 64 ≡ a % 64 = rw e (mod_last a) in
                  ring_in (slice_set slots (a % 64) None) ((a + 1) % 4096) i lt ∙ ap (λ k. get_or (slice_set slots (a % 64) None) k None) p ∙ get_or-set_same slots (a % 64) None None within ∙ sym right
              | inr out ↦ ring_out (slice_set slots (a % 64) None) ((a + 1) % 4096) i out ∙ sym right
            ]
      ]

  abbrev pub weight : Option (Option F) → ℕ
  weight o = cond (is_some o) 1 0

  -- how many are held after a write
  pub held_set : (slots : List (Option (Option F))) (i : ℕ) (o : Option (Option F)) → i < length slots → held_count (slice_set slots i o) + weight (get_or slots i None) ≡ held_count slots + weight o
  unfolding held_count
  held_set slots i o h = sum_by-set weight slots i o None h

  weight_le : (o : Option (Option F)) → weight o ≤ 1
  weight_le None = omega arith
  weight_le (Some x) = omega arith

  pub held_le : (slots : List (Option (Option F))) → held_count slots ≤ length slots
  unfolding held_count
  held_le slots = omega (arith, sum_by-le weight 1 slots (All-from_get_or (λ o. weight o ≤ 1) slots None (λ i h. weight_le (get_or slots i None))))

  pub frame_fits : (n : ℕ) (o : Option (Option F)) → length (frame_of n o) ≤ weight o
  frame_fits n None = omega arith
  frame_fits n (Some None) = omega arith
  frame_fits n (Some (Some f)) = omega arith

  pub read_is : (xs : List (Option (Option F))) (i : ℕ) (x : Option (Option F)) → i < length xs → x ≡ get_or xs i x → get_or xs i None ≡ x
  read_is xs i x h e = grind (arith, common_steps)

  -- the slot at the front is the one moved to
  pub front_is : (slots init : List (Option (Option F))) (at start moved : ℕ) → ((i : ℕ) → ring_at slots at i ≡ ring_at init start (moved + i)) → ring_at init start moved ≡ get_or slots (at % 64) None
  front_is slots init at start moved h =
      let lt : 0 < 64 = omega arith in
      let e : at + 0 ≡ at = omega arith in
      let m : moved ≡ moved + 0 = omega arith in
      ap (ring_at init start) m ∙ sym (h 0) ∙ ring_in slots at 0 lt ∙ ap (λ k. get_or slots (k % 64) None) e

  pub some_below : (slots : List (Option (Option F))) (start k : ℕ) → IsSome (ring_at slots start k) → k < 64
  some_below slots start k h = ⊎_elim (λ lt. lt) (λ out. absurd (none_some (ap is_some (sym (ring_out slots start k out)) ∙ h))) (cases_lt k 64)

  pub none_from : (o : Option (Option F)) → is_some o ≡ false → o ≡ None
  none_from None h = refl
  none_from (Some x) h = absurd (none_some (sym h))

  pub full_more : (h : Items F) (least moved : ℕ) → ((k : ℕ) → least ≤ k → k < moved → IsSome (h k)) → (moved < least) ⊎ IsSome (h moved) → (k : ℕ) → least ≤ k → k < moved + 1 → IsSome (h k)
  full_more h least moved below here k from lt =
      ⊎_elim (λ before. below k from before)
      (λ at.
      let e : moved ≡ k = omega arith in
      ⊎_elim (λ early. absurd (omega arith)) (λ some. let P : ℕ → Type 0 = λ n. IsSome (h n) in subst P e some) here)
      (cases_lt k moved)

  -- the frames with those of one more slot
  pub gathered_next : (h : Items F) (start moved at : ℕ) (r : Option (Option F)) → at ≡ (start + moved) % 4096 → h moved ≡ r → gathered h start moved ++ frame_of at r ≡ gathered h start (moved + 1)
  gathered_next h start moved at r a s =
      ap (λ n. gathered h start moved ++ frame_of n r) a ∙ ap (λ o. gathered h start moved ++ frame_of ((start + moved) % 4096) o) (sym s) ∙ sym (gathered_more h start moved)

  -- how many are held after a slot is emptied
  pub held_less : (slots : List (Option (Option F))) (k : ℕ) (r new : Option (Option F)) → k < length slots → get_or slots k None ≡ r → new ≡ None → held_count (slice_set slots k new) + weight r ≡ held_count slots
  held_less slots k r new lt here gone =
      let one = held_set slots k new lt in
      let w : weight (get_or slots k None) ≡ weight r = ap weight here in
      let z : weight new ≡ 0 = ap weight gone in
      omega (arith, one, w, z)

  -- where each slot is empty, nothing is held
  pub none_counted : (slots : List (Option (Option F))) → ((i : ℕ) → get_or slots i None ≡ None) → held_count slots ≡ 0
  unfolding held_count
  none_counted [] empty = refl
  none_counted (x ∷ xs) empty =
      let here : weight x ≡ 0 = ap weight (empty 0) in
      let rest = none_counted xs (λ i. empty (suc i)) in
      let all = sum_by-cons weight x xs in
      all ∙ omega (arith, here, rest)

  -- where nothing is held, each slot is empty
  pub none_held : (slots : List (Option (Option F))) (k : ℕ) → held_count slots ≡ 0 → get_or slots k None ≡ None
  none_held slots k nothing =
      ⊎_elim (λ lt. let one = held_set slots k None lt in by (get_or slots k None) (omega (arith, one, nothing))) (λ past. get_or_past slots k None past) (cases_lt k (length slots))
    where
      by : (o : Option (Option F)) → weight o ≡ 0 → o ≡ None
      by None e = refl
      by (Some x) e = absurd (omega (arith, e))

  -- no more frames than slots that are emptied
  pub few_more : (slots : List (Option (Option F))) (k at most : ℕ) (r new : Option (Option F)) (out out2 : List (ℕ × F)) → k < length slots → get_or slots k None ≡ r → new ≡ None → out2 ≡ out ++ frame_of at r → length out + held_count slots ≤ most → length out2 + held_count (slice_set slots k new) ≤ most
  few_more slots k at most r new out out2 lt here gone more room =
      let one = held_set slots k new lt in
      let w : weight (get_or slots k None) ≡ weight r = ap weight here in
      let z : weight new ≡ 0 = ap weight gone in
      let l : length out2 ≡ length out + length (frame_of at r) = ap length more ∙ length-append out (frame_of at r) in
      let f : length (frame_of at r) ≤ weight r = frame_fits at r in
      omega (arith, one, w, z, l, f)
