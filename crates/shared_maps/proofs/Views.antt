-- What else keeps the rule: reads, new seats, and what one seat tells another.
use Rattle.std.proofs.Common.{◌≡◌, ◌≢◌, ◌⊎◌, ℕ, zero, suc, ◌+◌, ◌*◌, ◌^◌, List, [], ◌∷◌, ◌++◌, length, map, get_or, set, replicate, refl, sym, ap, ◌∙◌, subst, inl, inr, ⊎_elim, arith}
use Rattle.std.proofs.lemmas.List.{length-append, set-get_or}
use mathlib.Core.Option.{some, some-injective, some-ne-none}
use lib.ListN.{get_elem?}
use Rattle.atomic_table.specs.Table.{Me, keeps, Allows, Splits, Joins, opening}
use Rattle.atomic_table.proofs.Lists.{at_set, at_longer, at_last}
use Rattle.bpf_regions.specs.declared.maps.Shape.{Shape}
use Rattle.bpf_regions.specs.Maps.{word_count}
use Rattle.shared_maps.specs.declared.seen.Entry.{Entry}
use Rattle.shared_maps.specs.declared.seen.View.{View}
use Rattle.shared_maps.specs.History.{modulus, zeros, IsLegal, accesses_by, StartsWith}
use Rattle.shared_maps.specs.Kept.{shift_of, Fits, IsKept, Kept, numbering, seated, numbered, note, hearing, following, Learned, Confirmed}
use Rattle.shared_maps.proofs.Histories.{Answers-begin, accesses_by-append}

append_nil : {A : Type 0} (xs : List A) → xs ++ [] ≡ xs
append_nil [] = refl
append_nil (x ∷ xs) = ap (λ (ys : List _). x ∷ ys) (append_nil xs)

-- the last index, or an earlier one
at_end : {A : Type 0} (xs : List A) (a b : A) (j : ℕ) → get_elem? (xs ++ a ∷ []) j ≡ some b → (get_elem? xs j ≡ some b) ⊎ ((j ≡ length xs) × (a ≡ b))
at_end [] a b zero e = inr (refl, some-injective a b e)
at_end [] a b (suc j) e = absurd (some-ne-none b (sym e))
at_end (x ∷ xs) a b zero e = inl e
at_end (x ∷ xs) a b (suc j) e = ⊎_elim inl (λ t. inr (omega (arith, t.0), t.1)) (at_end xs a b j e)

-- if a history has no more accesses of a seat than its prefix v, nor has any prefix w between them
own_between : (seat : ℕ) (log w v own : List Entry) → StartsWith log w → StartsWith w v → accesses_by seat log ≡ own → accesses_by seat v ≡ own → accesses_by seat w ≡ own
own_between seat log w v own long short all some_own =
    let r : List Entry = short.0 in
    let t : List Entry = long.0 in
    let w_is : accesses_by seat w ≡ own ++ accesses_by seat r = ap (accesses_by seat) short.1 ∙ (accesses_by-append seat v r ∙ ap (λ (xs : List Entry). xs ++ accesses_by seat r) some_own) in
    let log_is : own ≡ (own ++ accesses_by seat r) ++ accesses_by seat t = sym all ∙ (ap (accesses_by seat) long.1 ∙ (accesses_by-append seat w t ∙ ap (λ (xs : List Entry). xs ++ accesses_by seat t) w_is)) in
    let none : accesses_by seat r ≡ [] = empty (accesses_by seat r) (let a = ap length log_is in let b = length-append (own ++ accesses_by seat r) (accesses_by seat t) in let c = length-append own (accesses_by seat r) in omega arith) in
    w_is ∙ (ap (λ (xs : List Entry). own ++ xs) none ∙ append_nil own)
  where
    empty : (xs : List Entry) → length xs ≡ 0 → xs ≡ []
    empty [] e = refl
    empty (x ∷ xs) e = absurd (omega arith)

no_note : (log : List Entry) (places : List ℕ) (id : ℕ) (seen : List Entry) → StartsWith log seen → accesses_by 0 log ≡ [] → Fits log places id (note seen)
no_note log places id seen s nobody = record {
  seen = s;
  told = (log, refl);
  own = nobody;
  mine = none_before seen log s nobody;
  placed = inl refl;
  numbers = inl refl;
}
  where
    none_before : (seen log : List Entry) → StartsWith log seen → accesses_by 0 log ≡ [] → accesses_by 0 seen ≡ []
    none_before seen log s nobody = own_between 0 log seen [] [] s (seen, refl) nobody refl

module _ (shape : Shape) where
  -- a view changes, and the log and the words do not
  abbrev replaced : (words : List ℕ) (views : List View) (id : ℕ) (x : View) → (kept : IsKept shape words views) → Fits kept.log kept.places id x → IsKept shape words (set views id x)
  replaced words views id x kept fits = record {
    log = kept.log;
    places = kept.places;
    some_place = kept.some_place;
    legal = kept.legal;
    words_are = kept.words_are;
    nobody = kept.nobody;
    later = kept.later;
    each = λ j b there. ⊎_elim
        (λ (t : (j ≡ id) × (x ≡ b)). subst (λ (y : View). Fits kept.log kept.places j y) t.1 (subst (λ (i : ℕ). Fits kept.log kept.places i x) (sym t.0) fits))
        (λ (t : (j ≢ id) × (get_elem? views j ≡ some b)). kept.each j b t.1)
        (at_set views id j x b there);
  }

  abbrev added : (words : List ℕ) (views : List View) (x : View) → (kept : IsKept shape words views) → Fits kept.log kept.places (length views) x → IsKept shape words (views ++ x ∷ [])
  added words views x kept fits = record {
    log = kept.log;
    places = kept.places;
    some_place = kept.some_place;
    legal = kept.legal;
    words_are = kept.words_are;
    nobody = kept.nobody;
    later = kept.later;
    each = λ j b there. ⊎_elim
        (λ (t : get_elem? views j ≡ some b). kept.each j b t)
        (λ (t : (j ≡ length views) × (x ≡ b)). subst (λ (y : View). Fits kept.log kept.places j y) t.1 (subst (λ (i : ℕ). Fits kept.log kept.places i x) (sym t.0) fits))
        (at_end views x b j there);
  }

  same_words : (words : List ℕ) (views : List View) (i : ℕ) → IsKept shape words views → IsKept shape (set words i (get_or words i 0)) views
  same_words words views i kept = subst (λ (ws : List ℕ). IsKept shape ws views) (sym (set-get_or words i 0)) kept

  -- a read sees the history so far
  pub learns : (slots id word : ℕ) (me : Me Unit View) → Allows (Kept shape) slots id me word (λ n. n) (λ n after. Learned shape me after)
  learns slots id word me s kept len at small =
      let v : View = me.0 in
      let fv = kept.each id v at in
      let w : View = record v { seen = kept.log } in
      let fw : Fits kept.log kept.places id w = record { seen = ([], sym (append_nil kept.log)); told = fv.told; own = fv.own; mine = fv.own; placed = fv.placed; numbers = fv.numbers } in
      (w, keeps, tt, same_words s.words (set s.views id w) word (replaced s.words s.views id w kept fw), record { slots = refl; number = refl; seen = fv.seen; told = fv.told; own = refl; witnessed = record { legal = kept.legal; own = fv.own } })

  -- a read that changes nothing shows what the rule says of the seat
  pub confirms : (slots id word : ℕ) (me : Me Unit View) → Allows (Kept shape) slots id me word (λ n. n) (λ n after. Confirmed shape me after)
  confirms slots id word me s kept len at small =
      let v : View = me.0 in
      let fv = kept.each id v at in
      let legal : IsLegal shape v.seen = Answers-begin (modulus shape.width) (zeros shape) v.seen fv.seen.0 (subst (λ (es : List Entry). IsLegal shape es) fv.seen.1 kept.legal) in
      (v, keeps, tt, same_words s.words (set s.views id v) word (replaced s.words s.views id v kept fv), record { same = refl; witnessed = record { legal = legal; own = fv.mine } })

  pub tells : (id : ℕ) (v : View) → Splits {S = Unit} (Kept shape) id v v (note v.seen)
  tells id v s kept at =
      let fv = kept.each id v at in
      let kept' = replaced s.words s.views id v kept fv in
      added s.words (set s.views id v) (note v.seen) kept' (no_note kept.log kept.places (length (set s.views id v)) v.seen fv.seen kept.nobody)

  -- what the rule says of the note w, of another seat than `id`
  noted : (views : List View) (id other : ℕ) (x w : View) (log : List Entry) (places : List ℕ) → ((j : ℕ) (b : View) → get_elem? views j ≡ some b → Fits log places j b)
      → ¬ (other ≡ id) → get_elem? (set views id x) other ≡ some w → Fits log places other w
  noted views id other x w log places each apart there = ⊎_elim
      (λ (t : (other ≡ id) × (x ≡ w)). absurd (apart t.0))
      (λ (t : (other ≢ id) × (get_elem? views other ≡ some w)). each other w t.1)
      (at_set views id other x w there)

  pub hears : (id : ℕ) (v : View) (other : ℕ) (w : View) → Joins {S = Unit} (Kept shape) id v other w (hearing v w) (note [])
  hears id v other w s kept at apart there =
      let fv = kept.each id v at in
      let fw = noted s.views id other (hearing v w) w kept.log kept.places kept.each apart there in
      let kept' = replaced s.words s.views id (hearing v w) kept (record { seen = fv.seen; told = fw.seen; own = fv.own; mine = fv.mine; placed = fv.placed; numbers = fv.numbers }) in
      replaced s.words (set s.views id (hearing v w)) other (note []) kept' (no_note kept.log kept.places other [] (kept.log, refl) kept.nobody)

  pub follows : (id : ℕ) (v : View) (other : ℕ) (w : View) → StartsWith w.seen v.seen → Joins {S = Unit} (Kept shape) id v other w (following v w) (note [])
  follows id v other w longer s kept at apart there =
      let fv = kept.each id v at in
      let fw = noted s.views id other (following v w) w kept.log kept.places kept.each apart there in
      let kept' = replaced s.words s.views id (following v w) kept (record { seen = fw.seen; told = fv.told; own = fv.own; mine = own_between v.number kept.log w.seen v.seen v.own fw.seen longer fv.own fv.mine; placed = fv.placed; numbers = fv.numbers }) in
      replaced s.words (set s.views id (following v w)) other (note []) kept' (no_note kept.log kept.places other [] (kept.log, refl) kept.nobody)

  -- the next seat
  pub numbers : (id n : ℕ) (v : View) → v ≡ numbering (suc n) → Splits {S = Unit} (Kept shape) id v (numbered v) (seated v)
  numbers id n v is s kept at =
      let fv = kept.each id v at in
      let next : v.following ≡ suc n = ap (λ (x : View). x.following) is in
      let first : id ≡ 0 = ⊎_elim (λ (z : v.following ≡ 0). absurd (omega arith)) (λ t. t.0) fv.numbers in
      let long : v.following ≡ length kept.places = ⊎_elim (λ (z : v.following ≡ 0). absurd (omega arith)) (λ t. t.1) fv.numbers in
      let more : List ℕ = kept.places ++ length (set s.views id (numbered v)) ∷ [] in
      let longer : length more ≡ length kept.places + 1 = length-append kept.places (length (set s.views id (numbered v)) ∷ []) in
      let old_fits : (j : ℕ) (b : View) → (b.following ≡ 0) ⊎ ((j ≡ 0) × (b.following ≡ length more)) → Fits kept.log kept.places j b → Fits kept.log more j b =
      λ j b nums fb. record {
        seen = fb.seen;
        told = fb.told;
        own = fb.own;
        mine = fb.mine;
        placed = ⊎_elim inl (λ (p : get_elem? kept.places b.number ≡ some j). inr (at_longer kept.places (length (set s.views id (numbered v)) ∷ []) b.number j p)) fb.placed;
        numbers = nums;
      } in
      let root_fits : Fits kept.log more id (numbered v) = record {
        seen = (kept.log, refl);
        told = (kept.log, refl);
        own = kept.nobody;
        mine = refl;
        placed = inl refl;
        numbers = inr (first, omega arith);
      } in
      let new_fits : Fits kept.log more (length (set s.views id (numbered v))) (seated v) = record {
        seen = (kept.log, refl);
        told = (kept.log, refl);
        own = kept.later v.following (omega arith);
        mine = refl;
        placed = inr (at_last kept.places (length (set s.views id (numbered v))) v.following (sym long));
        numbers = inl refl;
      } in
      record {
        log = kept.log;
        places = more;
        some_place = omega arith;
        legal = kept.legal;
        words_are = kept.words_are;
        nobody = kept.nobody;
        later = λ m far. kept.later m (omega arith);
        each = λ j b there. ⊎_elim
            (λ (t : get_elem? (set s.views id (numbered v)) j ≡ some b). ⊎_elim
            (λ (u : (j ≡ id) × (numbered v ≡ b)). subst (λ (y : View). Fits kept.log more j y) u.1 (subst (λ (i : ℕ). Fits kept.log more i (numbered v)) (sym u.0) root_fits))
            (λ (u : (j ≢ id) × (get_elem? s.views j ≡ some b)). let fb = kept.each j b u.1 in
            old_fits j b (⊎_elim inl (λ (z : (j ≡ 0) × (b.following ≡ length kept.places)). absurd (u.0 (z.0 ∙ sym first))) fb.numbers) fb)
            (at_set s.views id j (numbered v) b t))
            (λ (t : (j ≡ length (set s.views id (numbered v))) × (seated v ≡ b)). subst (λ (y : View). Fits kept.log more j y) t.1 (subst (λ (i : ℕ). Fits kept.log more i (seated v)) (sym t.0) new_fits))
            (at_end (set s.views id (numbered v)) (seated v) b j there);
      }

  shifted_zeros : (n k : ℕ) → replicate n 0 ≡ map (λ (x : ℕ). x * 2 ^ k) (replicate n 0)
  shifted_zeros zero k = refl
  shifted_zeros (suc n) k = ap (λ (xs : List ℕ). 0 ∷ xs) (shifted_zeros n k) ∙ ap (λ (z : ℕ). z ∷ map (λ (x : ℕ). x * 2 ^ k) (replicate n 0)) nothing
    where
      nothing : 0 ≡ 0 * 2 ^ k
      nothing = omega arith

  pub opens : (words : List ℕ) → words ≡ zeros shape → Kept shape (opening words [] (numbering 1))
  opens words is = record {
    log = [];
    places = 0 ∷ [];
    some_place = omega arith;
    legal = tt;
    words_are = is ∙ shifted_zeros (word_count shape) (shift_of shape.width);
    nobody = refl;
    later = λ n far. refl;
    each = each;
  }
    where
      each : (id : ℕ) (v : View) → get_elem? (numbering 1 ∷ []) id ≡ some v → Fits [] (0 ∷ []) id v
      each zero v e = subst (λ (x : View). Fits [] (0 ∷ []) 0 x) (some-injective _ v e) (record { seen = ([], refl); told = ([], refl); own = refl; mine = refl; placed = inl refl; numbers = inr (refl, refl) })
      each (suc j) v e = absurd (some-ne-none v (sym e))
