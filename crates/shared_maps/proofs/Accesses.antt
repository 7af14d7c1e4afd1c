-- An access keeps the rule.
use Rattle.std.proofs.Common.{◌≡◌, ◌≢◌, ℕ, ◌*◌, ◌/◌, ◌^◌, ◌<◌, List, [], ◌∷◌, ◌++◌, length, map, get_or, set, refl, sym, ap, ◌∙◌, subst, ⊎_elim, arith}
use Rattle.std.proofs.lemmas.List.{append-nil, length-replicate, get_or-map, map-set}
use mathlib.Core.Option.{Option, some, some-injective}
use lib.ListN.{get_elem?}
use Rattle.atomic_table.specs.Table.{Me, step, keeps, Allows}
use Rattle.atomic_table.proofs.Lists.{at_set}
use Rattle.bpf_regions.specs.declared.maps.Shape.{Shape}
use Rattle.bpf_regions.specs.declared.maps.MapOp.{MapOp}
use Rattle.bpf_regions.specs.Maps.{bytes_of, word_count}
use Rattle.shared_maps.specs.declared.seen.Entry.{Entry}
use Rattle.shared_maps.specs.declared.seen.View.{View}
use Rattle.shared_maps.specs.History.{modulus, number_after, answer_to, entry, array_of, zeros, Answers, IsLegal, accesses_by}
use Rattle.shared_maps.specs.Seats.{Extends}
use Rattle.shared_maps.specs.Kept.{Fits, IsKept, Kept, Made, known, shift_of}
use Rattle.shared_maps.proofs.Histories.{length-array_of, array_of-append, Answers-append, accesses_by-own, accesses_by-other, starts_longer, in_range}
use Rattle.shared_maps.proofs.Words.{wide, whole, below}

-- what an access leaves in the view
abbrev pub after_access : View → List Entry → Entry → View
after_access v log e = record v { seen = log ++ e ∷ []; own = v.own ++ e ∷ [] }

-- the other seats don't see the access
others_fit : (log : List Entry) (places : List ℕ) (j id : ℕ) (b v : View) (e : Entry) → e.seat ≡ v.number → 0 < v.number → j ≢ id → Fits log places id v → Fits log places j b → Fits (log ++ e ∷ []) places j b
others_fit log places j id b v e by pos other fv fb = record {
  seen = starts_longer log b.seen e fb.seen;
  told = starts_longer log b.told e fb.told;
  own = accesses_by-other b.number log e apart ∙ fb.own;
  mine = fb.mine;
  placed = fb.placed;
  numbers = fb.numbers;
}
  where
    at_id : get_elem? places v.number ≡ some id
    at_id = ⊎_elim (λ (z : v.number ≡ 0). absurd (omega arith)) (λ p. p) fv.placed

    apart : e.seat ≢ b.number
    apart same = ⊎_elim
        (λ (z : b.number ≡ 0). absurd (omega arith))
        (λ (p : get_elem? places b.number ≡ some j). other (some-injective j id (sym p ∙ (ap (λ (n : ℕ). get_elem? places n) (sym same ∙ by) ∙ at_id))))
        fb.placed

-- the seat itself
own_fits : (log : List Entry) (places : List ℕ) (id : ℕ) (v : View) (e : Entry) → e.seat ≡ v.number → Fits log places id v → Fits (log ++ e ∷ []) places id (after_access v log e)
own_fits log places id v e by fv = record {
  seen = ([], sym (append-nil (log ++ e ∷ [])));
  told = starts_longer log v.told e fv.told;
  own = mine;
  mine = mine;
  placed = fv.placed;
  numbers = fv.numbers;
}
  where
    mine : accesses_by v.number (log ++ e ∷ []) ≡ v.own ++ e ∷ []
    mine = accesses_by-own v.number log e by ∙ ap (λ (zs : List Entry). zs ++ e ∷ []) fv.own

module _ (shape : Shape) where
  abbrev M : ℕ
  M = modulus shape.width

  abbrev array : List Entry → List ℕ
  array log = array_of M (zeros shape) log

  abbrev placed : ℕ → ℕ
  placed n = n * 2 ^ shift_of shape.width

  count_is : (log : List Entry) → length (array log) ≡ word_count shape
  count_is log = length-array_of M (zeros shape) log ∙ length-replicate (word_count shape) 0

  -- the word holds the array's number
  word_is : (log : List Entry) (word : ℕ) (words : List ℕ) → word < word_count shape → words ≡ map placed (array log) → get_or words word 0 ≡ placed (get_or (array log) word 0)
  word_is log word words low is = ap (λ (ws : List ℕ). get_or ws word 0) is ∙ get_or-map placed (array log) word 0 0 (subst (λ (n : ℕ). word < n) (sym (count_is log)) low)

  -- the rule after an access
  kept_after : (words : List ℕ) (views : List View) (id word : ℕ) (v : View) (op : MapOp) (new : ℕ)
      → (kept : IsKept shape words views) → get_elem? views id ≡ some v → word < word_count shape → 0 < v.number
      → new ≡ placed (number_after M op (get_or (array kept.log) word 0))
      → (e : Entry) → e ≡ entry v.number word op (answer_to op (get_or (array kept.log) word 0))
      → IsKept shape (set words word new) (set views id (after_access v kept.log e))
  kept_after words views id word v op new kept at low pos is e e_is = record {
    log = kept.log ++ e ∷ [];
    places = kept.places;
    some_place = kept.some_place;
    legal = Answers-append M (zeros shape) kept.log (e ∷ []) kept.legal answers;
    words_are = words_are;
    nobody = accesses_by-other 0 kept.log e (λ z. let h = by in absurd (omega arith)) ∙ kept.nobody;
    later = λ n far. accesses_by-other n kept.log e (λ z. let h = by in let r = in_range kept.places v.number id at_id in absurd (omega arith)) ∙ kept.later n far;
    each = λ j b there. ⊎_elim
        (λ (t : (j ≡ id) × (after_access v kept.log e ≡ b)). subst (λ (x : View). Fits (kept.log ++ e ∷ []) kept.places j x) t.1 (subst (λ (i : ℕ). Fits (kept.log ++ e ∷ []) kept.places i (after_access v kept.log e)) (sym t.0) (own_fits kept.log kept.places id v e by fv)))
        (λ (t : (j ≢ id) × (get_elem? views j ≡ some b)). others_fit kept.log kept.places j id b v e by pos t.0 fv (kept.each j b t.1))
        (at_set views id j (after_access v kept.log e) b there);
  }
    where
      n : ℕ
      n = get_or (array kept.log) word 0

      by : e.seat ≡ v.number
      by = ap (λ (x : Entry). x.seat) e_is

      fv : Fits kept.log kept.places id v
      fv = kept.each id v at

      at_id : get_elem? kept.places v.number ≡ some id
      at_id = ⊎_elim (λ (z : v.number ≡ 0). absurd (omega arith)) (λ p. p) fv.placed

      answers : Answers M (array kept.log) (e ∷ [])
      answers = subst (λ (x : Entry). Answers M (array kept.log) (x ∷ [])) (sym e_is) (subst (λ (k : ℕ). word < k) (sym (count_is kept.log)) low, refl, tt)

      words_are : set words word new ≡ map placed (array (kept.log ++ e ∷ []))
      words_are = ap (λ (ws : List ℕ). set ws word new) kept.words_are
          ∙ (ap (λ (z : ℕ). set (map placed (array kept.log)) word z) is
          ∙ (sym (map-set placed (array kept.log) word (number_after M op (get_or (array kept.log) word 0)))
          ∙ (ap (λ (x : Entry). map placed (array_of M (array kept.log) (x ∷ []))) (sym e_is)
          ∙ ap (map placed) (sym (array_of-append M (zeros shape) kept.log (e ∷ []))))))

  legal_after : (log : List Entry) (word number : ℕ) (op : MapOp) → IsLegal shape log → word < word_count shape
      → IsLegal shape (log ++ entry number word op (answer_to op (get_or (array log) word 0)) ∷ [])
  legal_after log word number op legal low = Answers-append M (zeros shape) log (entry number word op (answer_to op (get_or (array log) word 0)) ∷ []) legal (subst (λ (k : ℕ). word < k) (sym (count_is log)) low, refl, tt)

  -- One case for all operations: f replaces the word's old number by the new one, and the step shows the old number
  -- if the operation returns it
  pub accesses : (slots id word a b : ℕ) (x : Option Unit) (me : Me Unit View) (op : MapOp) (f told : ℕ → ℕ)
      → word < word_count shape → 0 < me.0.number
      → ((n : ℕ) → n < M → f (placed n) ≡ placed (number_after M op n))
      → ((n : ℕ) → answer_to op (told (placed n) / 2 ^ shift_of shape.width) ≡ answer_to op n)
      → Allows (Kept shape) slots id me word f (λ n w. Made shape op (step slots word a b x) me (told n) w)
  accesses slots id word a b x me op f told low pos changes tells s kept len at small =
      let v : View = me.0 in
      let n : ℕ = get_or (array kept.log) word 0 in
      let e : Entry = entry v.number word op (answer_to op n) in
      let here : get_or s.words word 0 ≡ placed n = word_is kept.log word s.words low kept.words_are in
      let low_n : n < M = below n M (shift_of shape.width) (wide (bytes_of shape.width) (shift_of shape.width) (whole shape.width)) (subst (λ (z : ℕ). z < 18446744073709551616) here small) in
      let new : f (get_or s.words word 0) ≡ placed (number_after M op n) = ap f here ∙ changes n low_n in
      let told_n : answer_to op (told (get_or s.words word 0) / 2 ^ shift_of shape.width) ≡ answer_to op n = ap (λ (z : ℕ). answer_to op (told z / 2 ^ shift_of shape.width)) here ∙ tells n in
      let fv : Fits kept.log kept.places id v = kept.each id v at in
      let own : accesses_by v.number (kept.log ++ e ∷ []) ≡ v.own ++ e ∷ [] = accesses_by-own v.number kept.log e refl ∙ ap (λ (zs : List Entry). zs ++ e ∷ []) fv.own in
      let made : Extends shape (known v) word op (answer_to op n) (known (after_access v kept.log e)) =
      record {
        between = fv.seen.0;
        number = refl;
        seen = ap (λ (zs : List Entry). zs ++ e ∷ []) fv.seen.1;
        own = refl;
        witnessed = record { legal = legal_after kept.log word v.number op kept.legal low; own = own };
      } in (
        after_access v kept.log e,
        keeps,
        tt,
        kept_after s.words s.views id word v op _ kept at low pos new e refl,
        (refl, subst (λ (answer : ℕ). Extends shape (known v) word op answer (known (after_access v kept.log e))) (sym told_n) made),
      )

-- the same for the function's arguments
pub asked : (key shape shape' : Shape) (op' op : MapOp) (words shift : ℕ) → key ≡ shape → shape' ≡ shape → op' ≡ op → word_count shape ≡ words → shift ≡ shift_of shape.width
    → (slots id word a b : ℕ) (x : Option Unit) (me : Me Unit View) (f told : ℕ → ℕ) → word < words → 0 < me.0.number
    → ((n : ℕ) → f (n * 2 ^ shift) ≡ number_after (modulus shape.width) op n * 2 ^ shift)
    → ((n : ℕ) → answer_to op (told (n * 2 ^ shift) / 2 ^ shift) ≡ answer_to op n)
    → Allows (Kept key) slots id me word f (λ n w. Made shape' op' (step slots word a b x) me (told n) w)
asked key shape shape' op' op words shift key_is shape_is op_is words_are shift_is slots id word a b x me f told low pos changes tells =
    let changes' : (n : ℕ) → f (n * 2 ^ shift_of shape.width) ≡ number_after (modulus shape.width) op n * 2 ^ shift_of shape.width =
    subst (λ (k : ℕ). (n : ℕ) → f (n * 2 ^ k) ≡ number_after (modulus shape.width) op n * 2 ^ k) shift_is changes in
    let tells' : (n : ℕ) → answer_to op (told (n * 2 ^ shift_of shape.width) / 2 ^ shift_of shape.width) ≡ answer_to op n =
    subst (λ (k : ℕ). (n : ℕ) → answer_to op (told (n * 2 ^ k) / 2 ^ k) ≡ answer_to op n) shift_is tells in
    let low' : word < word_count shape = subst (λ (k : ℕ). word < k) (sym words_are) low in
    let base = accesses shape slots id word a b x me op f told low' pos (λ n h. changes' n) tells' in
    subst (λ (s : Shape). Allows (Kept s) slots id me word f (λ n w. Made shape' op' (step slots word a b x) me (told n) w)) (sym key_is)
    (subst (λ (s : Shape). Allows (Kept shape) slots id me word f (λ n w. Made s op' (step slots word a b x) me (told n) w)) (sym shape_is)
    (subst (λ (o : MapOp). Allows (Kept shape) slots id me word f (λ n w. Made shape o (step slots word a b x) me (told n) w)) (sym op_is) base))
