-- Lemmas on what was taken, seen from the window's start: a write, and one move after another.
use Rattle.std.proofs.Common.{◌≡◌, ℕ, zero, suc, ◌+◌, ◌-◌, ◌%◌, ◌<◌, ◌≤◌, ◌≢◌, ⊎_elim, cond, Option, None, Some, List, ◌++◌, length, get_or, refl, sym, ap, ◌∙◌, subst, arith, add-suc, add-zero, append_assoc}
use Rattle.std.specs.Prelude.{is_some, IsSome, slice_set}
use Rattle.std.proofs.lemmas.Bool.{cases_lt, cases_eq, ne_eqb, eq-eqb}
use Rattle.std.proofs.lemmas.List.{get_or-set_other, get_or-set_same, length-set, append-nil}
use Rattle.blockack.specs.Window.{Items, IsUnwrapped, IsNextFree, with_item}
use Rattle.blockack.specs.Passed.{frame_of}
use Rattle.blockack.specs.Ring.{ring_at, held_count, gathered, ahead, IsSoundRing}
use Rattle.blockack.proofs.SlotLaws.{ring_in, ring_out, held_set, held_le, none_some, weight}

-- a sequence number means at most one number
pub one_number : (start number n m : ℕ) → IsUnwrapped start number n → IsUnwrapped start number m → n ≡ m
one_number start number n m p q =
    let a = p.residue in let b = p.low in let d = p.high in let e = q.residue in let f = q.low in let h = q.high in
    omega arith

module _ {F : Type 0} where
  pub with_same : (h : Items F) (d : ℕ) (item : Option F) (k : ℕ) → k ≡ d → with_item h d item k ≡ Some item
  with_same h d item k e = ap (λ b. cond b (Some item) (h k)) (eq-eqb k d e)

  pub with_other : (h : Items F) (d : ℕ) (item : Option F) (k : ℕ) → k ≢ d → with_item h d item k ≡ h k
  with_other h d item k e = ap (λ b. cond b (Some item) (h k)) (ne_eqb k d e)

  pub not_some : (o : Option (Option F)) → o ≡ None → IsSome o → ⊥
  not_some o e s = none_some (ap is_some (sym e) ∙ s)

  pub with_some : (h : Items F) (d : ℕ) (item : Option F) (k : ℕ) → IsSome (h k) → IsSome (with_item h d item k)
  with_some h d item k s =
      ⊎_elim (λ e. ap is_some (with_same h d item k e)) (λ ne. ap is_some (with_other h d item k ne) ∙ s) (cases_eq k d)

  pub with_shift : (h h1 : Items F) (j d : ℕ) (item : Option F) → ((i : ℕ) → h1 i ≡ h (j + i)) → j ≤ d → (i : ℕ) → with_item h1 (d - j) item i ≡ with_item h d item (j + i)
  with_shift h h1 j d item same le i =
      ⊎_elim
      (λ e. let f : j + i ≡ d = omega arith in with_same h1 (d - j) item i e ∙ sym (with_same h d item (j + i) f))
      (λ ne. let f : j + i ≢ d = λ p. ne (omega arith) in with_other h1 (d - j) item i ne ∙ same i ∙ sym (with_other h d item (j + i) f))
      (cases_eq i (d - j))

  -- the window doesn't pass a number that is to be taken
  pub stops_before : (h : Items F) (size d j : ℕ) → 1 ≤ size → h d ≡ None → IsNextFree h (d + 1 - size) j → j ≤ d
  stops_before h size d j some free next =
      ⊎_elim (λ lt. let from : d + 1 - size ≤ d = omega arith in absurd (not_some (h d) free (next.full d from lt))) (λ le. le) (cases_lt d j)

  -- one move, the write, and the next move are one move of what was taken with the item
  pub both_next : (h g : Items F) (m d j k : ℕ) (item : Option F) → IsNextFree h m j → ((i : ℕ) → g i ≡ with_item h d item (j + i)) → IsNextFree g 0 k → IsNextFree (with_item h d item) m (j + k)
  both_next h g m d j k item first same then =
      record {
        above = let a = first.above in omega arith;
        free = sym (same k) ∙ then.free;
        full = λ n from lt.
            ⊎_elim
            (λ before. with_some h d item n (first.full n from before))
            (λ after.
            let e : j + (n - j) ≡ n = omega arith in
            let z : 0 ≤ n - j = omega arith in
            let l : n - j < k = omega arith in
            let s : IsSome (with_item h d item (j + (n - j))) = ap is_some (sym (same (n - j))) ∙ then.full (n - j) z l in
            let P : ℕ → Type 0 = λ x. IsSome (with_item h d item x) in subst P e s)
            (cases_lt n j);
      }

  pub gathered_same : (h g : Items F) (start j : ℕ) → ((i : ℕ) → i < j → h i ≡ g i) → gathered h start j ≡ gathered g start j
  unfolding gathered
  gathered_same h g start zero same = refl
  gathered_same h g start (suc j) same =
      let ih : gathered h start j ≡ gathered g start j = gathered_same h g start j (λ i lt. same i (omega arith)) in
      let last : h j ≡ g j = same j (omega arith) in
      ap (λ xs. xs ++ frame_of ((start + j) % 4096) (h j)) ih ∙ ap (λ o. gathered g start j ++ frame_of ((start + j) % 4096) o) last

  pub gathered_split : (h g : Items F) (start j k : ℕ) → ((i : ℕ) → g i ≡ h (j + i)) → gathered h start (j + k) ≡ gathered h start j ++ gathered g ((start + j) % 4096) k
  unfolding gathered
  gathered_split h g start j zero same = rw add-zero (sym (append-nil (gathered h start j)))
  gathered_split h g start j (suc k) same =
      let ih : gathered h start (j + k) ≡ gathered h start j ++ gathered g ((start + j) % 4096) k = gathered_split h g start j k same in
      let n : (start + (j + k)) % 4096 ≡ ((start + j) % 4096 + k) % 4096 = omega arith in
      rw add-suc
      (ap (λ xs. xs ++ frame_of ((start + (j + k)) % 4096) (h (j + k))) ih ∙
      ap (λ x. (gathered h start j ++ gathered g ((start + j) % 4096) k) ++ frame_of x (h (j + k))) n ∙
      ap (λ o. (gathered h start j ++ gathered g ((start + j) % 4096) k) ++ frame_of (((start + j) % 4096 + k) % 4096) o) (sym (same k)) ∙
      append_assoc (gathered h start j) (gathered g ((start + j) % 4096) k) (frame_of (((start + j) % 4096 + k) % 4096) (g k)))

  pub both_gathered : (h g : Items F) (start d j k : ℕ) (item : Option F) → j ≤ d → ((i : ℕ) → g i ≡ with_item h d item (j + i)) → gathered (with_item h d item) start (j + k) ≡ gathered h start j ++ gathered g ((start + j) % 4096) k
  both_gathered h g start d j k item le same =
      gathered_split (with_item h d item) g start j k same ∙
      ap (λ xs. xs ++ gathered g ((start + j) % 4096) k) (gathered_same (with_item h d item) h start j (λ i lt. with_other h d item i (λ e. omega arith)))

  -- a write to the ring
  pub ring_put : (slots : List (Option (Option F))) (start e place : ℕ) (item : Option F) → length slots ≡ 64 → e < 64 → place ≡ (start + e) % 64 → (i : ℕ) → ring_at (slice_set slots place (Some item)) start i ≡ with_item (ring_at slots start) e item i
  ring_put slots start e place item len lt is i =
      ⊎_elim
      (λ same.
      let lt2 : i < 64 = omega arith in
      let p : (start + i) % 64 ≡ place = ap (λ x. (start + x) % 64) same ∙ sym is in
      let within : place < length slots = omega arith in
      ring_in (slice_set slots place (Some item)) start i lt2 ∙ ap (λ x. get_or (slice_set slots place (Some item)) x None) p ∙ get_or-set_same slots place (Some item) None within ∙ sym (with_same (ring_at slots start) e item i same))
      (λ ne.
      ⊎_elim
      (λ lt2.
      let p : (start + i) % 64 ≢ place = λ q. ne (omega arith) in
      ring_in (slice_set slots place (Some item)) start i lt2 ∙ get_or-set_other slots place ((start + i) % 64) (Some item) None p ∙ sym (ring_in slots start i lt2) ∙ sym (with_other (ring_at slots start) e item i ne))
      (λ out. ring_out (slice_set slots place (Some item)) start i out ∙ sym (ring_out slots start i out) ∙ sym (with_other (ring_at slots start) e item i ne))
      (cases_lt i 64))
      (cases_eq i e)

  pub held_free : (slots : List (Option (Option F))) (k : ℕ) → k < length slots → get_or slots k None ≡ None → held_count slots + 1 ≤ length slots
  held_free slots k lt free =
      let one = held_set slots k (Some None) lt in
      let w : weight (get_or slots k None) ≡ 0 = ap weight free in
      let le = held_le (slice_set slots k (Some None)) in
      let l : length (slice_set slots k (Some None)) ≡ length slots = length-set slots k (Some None) in
      omega (arith, one, w, le, l)

  pub held_put : (slots : List (Option (Option F))) (k : ℕ) (item : Option F) → k < length slots → get_or slots k None ≡ None → held_count (slice_set slots k (Some item)) ≡ held_count slots + 1
  held_put slots k item lt free =
      let one = held_set slots k (Some item) lt in
      let w : weight (get_or slots k None) ≡ 0 = ap weight free in
      omega (arith, one, w)

pub place_is : (start number j : ℕ) → start < 4096 → number < 4096 → j ≤ ahead start number → number % 64 ≡ ((start + j) % 4096 + (ahead start number - j)) % 64
place_is start number j s n le = omega arith

module _ {F : Type 0} where
  pub slot_free : (slots : List (Option (Option F))) (start e place : ℕ) → e < 64 → place ≡ (start + e) % 64 → ring_at slots start e ≡ None → get_or slots place None ≡ None
  slot_free slots start e place lt is free = ap (λ x. get_or slots x None) is ∙ sym (ring_in slots start e lt) ∙ free

  -- what is known between the two moves of a store
  pub record Between (slots slots1 : List (Option (Option F))) (start size number j : ℕ) (item : Option F) : Type 0 where
    pub before : j ≤ ahead start number
    pub near : ahead start number - j < 64
    pub free : get_or slots1 (number % 64) None ≡ None
    pub put : (i : ℕ) → ring_at (slice_set slots1 (number % 64) (Some item)) ((start + j) % 4096) i ≡ with_item (ring_at slots start) (ahead start number) item (j + i)

  pub between : (slots slots1 : List (Option (Option F))) (start size number j : ℕ) (item : Option F) → start < 4096 → number < 4096 → 1 ≤ size → size ≤ 64 → length slots1 ≡ 64 → ring_at slots start (ahead start number) ≡ None → IsNextFree (ring_at slots start) (ahead start number + 1 - size) j → ((i : ℕ) → ring_at slots1 ((start + j) % 4096) i ≡ ring_at slots start (j + i)) → Between slots slots1 start size number j item
  between slots slots1 start size number j item s n some most len free next rest =
      let le : j ≤ ahead start number = stops_before (ring_at slots start) size (ahead start number) j some free next in
      let up : ahead start number + 1 - size ≤ j = next.above in
      let near : ahead start number - j < 64 = omega arith in
      let place = place_is start number j s n le in
      let back : j + (ahead start number - j) ≡ ahead start number = omega arith in
      record {
        before = le;
        near = near;
        free = slot_free slots1 ((start + j) % 4096) (ahead start number - j) (number % 64) near place (rest (ahead start number - j) ∙ ap (ring_at slots start) back ∙ free);
        put = λ i.
            ring_put slots1 ((start + j) % 4096) (ahead start number - j) (number % 64) item len near place i ∙
            with_shift (ring_at slots start) (ring_at slots1 ((start + j) % 4096)) j (ahead start number) item rest le i;
      }

  -- a run from the window's start is short
  pub run_short : (slots : List (Option (Option F))) (start k : ℕ) → IsNextFree (ring_at slots start) 0 k → k ≤ 64
  run_short slots start k next =
      ⊎_elim (λ lt. absurd (not_some (ring_at slots start 64) (ring_out slots start 64 (omega arith)) (next.full 64 (omega arith) lt))) (λ le. le) (cases_lt 64 k)

  -- the ring after data was taken
  pub sound_after : (slots slots2 : List (Option (Option F))) (start size number j : ℕ) (item : Option F) → IsSoundRing slots start size → length slots2 ≡ 64 →
      IsNextFree (with_item (ring_at slots start) (ahead start number) item) (ahead start number + 1 - size) j →
      ((i : ℕ) → ring_at slots2 ((start + j) % 4096) i ≡ with_item (ring_at slots start) (ahead start number) item (j + i)) → IsSoundRing slots2 ((start + j) % 4096) size
  sound_after slots slots2 start size number j item sound long next rest =
      let some = sound.some_size in
      let above = next.above in
      record {
        long = long;
        start_fits = omega arith;
        some_size = some;
        size_fits = sound.size_fits;
        front = rest 0 ∙ ap (with_item (ring_at slots start) (ahead start number) item) (add-zero j) ∙ next.free;
        past = λ i le.
            let ne : j + i ≢ ahead start number = λ e. omega arith in
            let far : size ≤ j + i = omega arith in
            rest i ∙ with_other (ring_at slots start) (ahead start number) item (j + i) ne ∙ sound.past (j + i) far;
      }

  pub short_after : (slots : List (Option (Option F))) (start size number j : ℕ) (item : Option F) → IsSoundRing slots start size → ahead start number < 2048 →
      IsNextFree (with_item (ring_at slots start) (ahead start number) item) (ahead start number + 1 - size) j → j ≤ 2112
  short_after slots start size number j item sound near next =
      let most = sound.size_fits in
      ⊎_elim
      (λ lt.
      let ne : 2112 ≢ ahead start number = λ e. omega arith in
      let from : ahead start number + 1 - size ≤ 2112 = omega arith in
      let far : size ≤ 2112 = omega arith in
      absurd (not_some (with_item (ring_at slots start) (ahead start number) item 2112) (with_other (ring_at slots start) (ahead start number) item 2112 ne ∙ sound.past 2112 far) (next.full 2112 from lt)))
      (λ le. le)
      (cases_lt 2112 j)

  pub ring_none : (slots : List (Option (Option F))) (start i : ℕ) → ((k : ℕ) → get_or slots k None ≡ None) → ring_at slots start i ≡ None
  ring_none slots start i none = ⊎_elim (λ lt. ring_in slots start i lt ∙ none ((start + i) % 64)) (λ out. ring_out slots start i out) (cases_lt i 64)

  -- the ring after a move
  pub sound_moved : (slots slots2 : List (Option (Option F))) (start size least j : ℕ) → IsSoundRing slots start size → length slots2 ≡ 64 → IsNextFree (ring_at slots start) least j →
      ((i : ℕ) → ring_at slots2 ((start + j) % 4096) i ≡ ring_at slots start (j + i)) → IsSoundRing slots2 ((start + j) % 4096) size
  sound_moved slots slots2 start size least j sound long next rest =
      record {
        long = long;
        start_fits = omega arith;
        some_size = sound.some_size;
        size_fits = sound.size_fits;
        front = rest 0 ∙ ap (ring_at slots start) (add-zero j) ∙ next.free;
        past = λ i le. rest i ∙ sound.past (j + i) (omega arith);
      }

  pub short_moved : (slots : List (Option (Option F))) (start least j : ℕ) → least < 2048 → IsNextFree (ring_at slots start) least j → j ≤ 2048
  short_moved slots start least j near next =
      ⊎_elim
      (λ lt. absurd (not_some (ring_at slots start 2048) (ring_out slots start 2048 (omega arith)) (next.full 2048 (omega arith) lt)))
      (λ le. le)
      (cases_lt 2048 j)
