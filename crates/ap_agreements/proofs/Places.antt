-- Indices in a table.
use Rattle.std.proofs.Common.{◌≡◌, ℕ, ◌+◌, ◌<◌, ◌≤◌, zero, suc, List, [], ◌∷◌, ◌++◌, length, take, drop, Bool, true, false, Some, None, Result, Ok, Err, refl, sym, ap, subst, ◌∙◌, arith, All, slice_index_or, drop-cons}
use Rattle.std.proofs.lemmas.List.{take-append-drop, get_or-take, get_or-drop, length-take, length-drop}
use Rattle.std.proofs.Common.{◌≢◌, get_or-set_same, get_or-set_other}
use Rattle.std.proofs.Math.ListN.{length-set}
use Rattle.std.proofs.lemmas.List.Elements.{All-append}
use Rattle.std.proofs.lemmas.List.Kept.{AllPairs-cons}
use Rattle.std.proofs.lemmas.Cmp.{tied_itself, alike_right}
use Rattle.std.proofs.lemmas.Bool.Decides.{nat_tests}
use Rattle.std.specs.Prelude.{nat_lt, ◌==◌, AllPairs, slice_set, IfOk, IfErr, remove, insert}
use Rattle.std.specs.Ordering.{ordering_index, ordering_reverse}
use Rattle.std.specs.List.Sorted.{IsBinarySearchResult, IsNonDecreasingBy, IsSearchInRange}
use Rattle.std.specs.declared.cmp.Ordering.{Ordering}
use Rattle.std.specs.declared.cmp.Ordering.TheVariants.{Less, Equal, Greater}
use Rattle.ap_agreements.specs.Tables.{Kept, key_of, key_cmp, agreement_in, IsRising, IsPlaceOf, IsPlaceFor, Sets}
use Rattle.ap_agreements.proofs.Keys.{key_total, exact_key, not_itself, not_key}
use Rattle.ap_agreements.proofs.Lookups.{absent, found_at, put_in, set_in, taken_out}

-- ---- lists

pub set_parts : (ks : List Kept) (at : ℕ) (y : Kept) → at < length ks → slice_set ks at y ≡ take at ks ++ (y ∷ drop (suc at) ks)
set_parts [] at y l = absurd (omega arith)
set_parts (k ∷ ks) zero y l = refl
set_parts (k ∷ ks) (suc i) y l = ap (λ (t : List Kept). k ∷ t) (set_parts ks i y (omega arith))

pub rising_append : {X : Type 0} (R : X → X → Type 0) (xs ys : List X) → AllPairs R xs → AllPairs R ys →
    ((i j : ℕ) (d : X) → i < length xs → j < length ys → R (slice_index_or xs i d) (slice_index_or ys j d)) → AllPairs R (xs ++ ys)
rising_append R [] ys a b c = b
rising_append R (x ∷ xs) ys a b c =
    AllPairs-cons R x (xs ++ ys)
    (All-append (R x) xs ys (λ k d l. a zero (suc k) d (omega arith) (omega (arith, l))) (λ k d l. c zero k d (omega arith) l))
    (rising_append R xs ys (λ i j d lt l. a (suc i) (suc j) d (omega (arith, lt)) (omega (arith, l))) b (λ i j d l m. c (suc i) j d (omega (arith, l)) m))

same_less : (p q r s : List ℕ × ℕ) → r ≡ p → s ≡ q → key_cmp p q ≡ Less → key_cmp r s ≡ Less
same_less p q r s e f h = ap (λ (k : List ℕ × ℕ). key_cmp k s) e ∙ ap (λ (k : List ℕ × ℕ). key_cmp p k) f ∙ h

reversed_greater : (r s : Ordering) → r ≡ ordering_reverse s → s ≡ Greater → r ≡ Less
reversed_greater r Less e f = absurd (cc)
reversed_greater r Equal e f = absurd (cc)
reversed_greater r Greater e f = e

-- if q comes after p, p comes before q
pub turned : (p q : List ℕ × ℕ) → key_cmp q p ≡ Greater → key_cmp p q ≡ Less
turned p q e = reversed_greater (key_cmp p q) (key_cmp q p) (key_total.antisymm p q) e

-- ---- where a search ends

pub in_range : (r : Result ℕ ℕ) (n : ℕ) → IsSearchInRange r n → IfOk r (λ i. i < n)
in_range (Ok i) n h = h
in_range (Err i) n h = tt

pub in_reach : (r : Result ℕ ℕ) (n : ℕ) → IsSearchInRange r n → IfErr r (λ i. i ≤ n)
in_reach (Ok i) n h = tt
in_reach (Err i) n h = h

rank : (o r : Ordering) → (o ≡ Less → r ≡ Less) → (o ≡ Equal → r ≡ Less) → ordering_index r ≤ ordering_index o
rank Less r f g = rw (f refl) (omega arith)
rank Equal r f g = rw (g refl) (omega arith)
rank Greater Less f g = omega arith
rank Greater Equal f g = omega arith
rank Greater Greater f g = omega arith

module _ (ks : List Kept) (key : List ℕ × ℕ) where
  below_by : (x y : Kept) → key_cmp (key_of x) (key_of y) ≡ Less → ordering_index (key_cmp (key_of x) key) ≤ ordering_index (key_cmp (key_of y) key)
  below_by x y lt =
      rank (key_cmp (key_of y) key) (key_cmp (key_of x) key)
      (λ e. key_total.trans (key_of x) (key_of y) key lt e)
      (λ e. sym (alike_right key_total (key_of y) key (key_of x) e) ∙ lt)

  searchable_by : IsRising ks → (i j : ℕ) (d : Kept) → i ≤ j → j < length ks → (b : Bool) → nat_lt i j ≡ b →
      ordering_index (key_cmp (key_of (slice_index_or ks i d)) key) ≤ ordering_index (key_cmp (key_of (slice_index_or ks j d)) key)
  searchable_by rising i j d le l true e = below_by (slice_index_or ks i d) (slice_index_or ks j d) (rising i j d (grind (arith, nat_tests)) l)
  searchable_by rising i j d le l false e = let same : i ≡ j = grind (arith, nat_tests) in rw same (omega arith)

  pub searchable : IsRising ks → IsNonDecreasingBy (λ y. ordering_index (key_cmp (key_of y) key)) ks
  searchable rising i j d le l = searchable_by rising i j d le l (nat_lt i j) refl

  pub place_of : (r : Result ℕ ℕ) → IsBinarySearchResult (λ y. key_cmp (key_of y) key) ks r → IfOk r (λ i. i < length ks) → IfOk r (IsPlaceOf ks key)
  place_of (Ok i) h l = record { inside = l; is = λ d. exact_key _ key (h d) }
  place_of (Err i) h l = tt

  pub place_for : (r : Result ℕ ℕ) → IsRising ks → IsBinarySearchResult (λ y. key_cmp (key_of y) key) ks r → IfErr r (λ i. i ≤ length ks) → IfErr r (IsPlaceFor ks key)
  place_for (Ok i) rising h l = tt
  place_for (Err i) rising h l =
      let p = h (searchable rising) in
      record { inside = l; below = λ k d lt. p.0 k d (omega arith) lt; above = λ k d le lt. p.1 k d le lt }

-- ---- how an edit at an index changes a table

-- the agreement's index divides the table
module _ (ks : List Kept) (rising : IsRising ks) (key : List ℕ × ℕ) (at : ℕ) (place : IsPlaceOf ks key at) (d : Kept) where
  abbrev pub the_one : Kept
  the_one = slice_index_or ks at d

  parted : take at ks ++ (the_one ∷ drop (suc at) ks) ≡ ks
  parted = sym (ap (λ (l : List Kept). take at ks ++ l) (drop-cons ks at d place.inside)) ∙ take-append-drop at ks

  lower : All (λ k. key_cmp (key_of k) (key_of the_one) ≡ Less) (take at ks)
  lower i e l =
      let lt : i < at = omega (arith, length-take at ks) in
      subst (λ (k : List ℕ × ℕ). key_cmp (key_of (slice_index_or (take at ks) i e)) k ≡ Less) (place.is e ∙ sym (place.is d))
      (rw (get_or-take at ks i e lt) (rising i at e lt place.inside))

  upper : All (λ k. key_cmp (key_of the_one) (key_of k) ≡ Less) (drop (suc at) ks)
  upper i e l =
      subst (λ (k : List ℕ × ℕ). key_cmp k (key_of (slice_index_or (drop (suc at) ks) i e)) ≡ Less) (place.is e ∙ sym (place.is d))
      (rw (get_or-drop (suc at) ks i e) (rising at (suc at + i) e (omega arith) (omega (arith, l, length-drop (suc at) ks))))

  pub found : agreement_in ks key.0 key.1 ≡ Some the_one.using
  found =
      subst (λ (p : List ℕ × ℕ). agreement_in ks p.0 p.1 ≡ Some the_one.using) (place.is d)
      (subst (λ (l : List Kept). agreement_in l the_one.station the_one.tid ≡ Some the_one.using) parted
      (found_at (take at ks) (drop (suc at) ks) the_one lower))

  pub removed : Sets ks key.0 key.1 None (remove ks at)
  removed =
      subst (λ (p : List ℕ × ℕ). Sets ks p.0 p.1 None (remove ks at)) (place.is d)
      (subst (λ (l : List Kept). Sets l the_one.station the_one.tid None (remove ks at)) parted
      (taken_out (take at ks) (drop (suc at) ks) the_one lower upper))

  pub replaced : (y : Kept) → key_of y ≡ key → Sets ks key.0 key.1 (Some y.using) (slice_set ks at y)
  replaced y e =
      subst (λ (l : List Kept). Sets ks key.0 key.1 (Some y.using) l) (sym (set_parts ks at y place.inside))
      (subst (λ (p : List ℕ × ℕ). Sets ks p.0 p.1 (Some y.using) (take at ks ++ (y ∷ drop (suc at) ks))) (place.is d)
      (subst (λ (l : List Kept). Sets l the_one.station the_one.tid (Some y.using) (take at ks ++ (y ∷ drop (suc at) ks))) parted
      (set_in (take at ks) (drop (suc at) ks) the_one lower y (e ∙ sym (place.is d)))))

  -- the replacement has the same key, so the table stays ordered
  key_kept : (y : Kept) → key_of y ≡ key → (i : ℕ) (e : Kept) → key_of (slice_index_or (slice_set ks at y) i e) ≡ key_of (slice_index_or ks i e)
  key_kept y f i e = key_by (i == at) refl
    where
      key_by : (b : Bool) → (i == at) ≡ b → key_of (slice_index_or (slice_set ks at y) i e) ≡ key_of (slice_index_or ks i e)
      key_by true t =
          let same : i ≡ at = grind (arith, nat_tests) in
          rw same (ap key_of (get_or-set_same ks at y e place.inside) ∙ f ∙ sym (place.is e))
      key_by false t =
          let other : i ≢ at = grind (arith, nat_tests) in
          ap key_of (get_or-set_other ks at i y e other)

  pub rises_replaced : (y : Kept) → key_of y ≡ key → IsRising (slice_set ks at y)
  rises_replaced y f i j e lt l =
      let m : j < length ks = omega (arith, l, length-set ks at y) in
      same_less (key_of (slice_index_or ks i e)) (key_of (slice_index_or ks j e)) (key_of (slice_index_or (slice_set ks at y) i e)) (key_of (slice_index_or (slice_set ks at y) j e))
      (key_kept y f i e) (key_kept y f j e) (rising i j e lt m)

-- ---- where an agreement would be inserted

module _ (ks : List Kept) (rising : IsRising ks) (key : List ℕ × ℕ) (at : ℕ) (place : IsPlaceFor ks key at) where
  none_there : (i : ℕ) (d : Kept) → i < length ks → (b : Bool) → nat_lt i at ≡ b → key_of (slice_index_or ks i d) ≡ key → ⊥
  none_there i d l true t f = not_itself _ _ f (place.below i d (grind (arith, nat_tests)))
  none_there i d l false t f =
      let g = place.above i d (grind (arith, nat_tests)) l in
      let e = tied_itself key_total key in
      let h = subst (λ (k : List ℕ × ℕ). key_cmp k key ≡ Greater) f g in
      cc

  pub not_found : agreement_in ks key.0 key.1 ≡ None
  not_found = absent ks key.0 key.1 (λ i d l. not_key key.0 key.1 (slice_index_or ks i d) (none_there i d l (nat_lt i at) refl))

  module _ (x : Kept) (is : key_of x ≡ key) where
    before_it : All (λ k. key_cmp (key_of k) (key_of x) ≡ Less) (take at ks)
    before_it i e l =
        let lt : i < at = omega (arith, length-take at ks) in
        same_less (key_of (slice_index_or ks i e)) key (key_of (slice_index_or (take at ks) i e)) (key_of x) (ap key_of (get_or-take at ks i e lt)) is (place.below i e lt)

    after_it : All (λ k. key_cmp (key_of x) (key_of k) ≡ Less) (drop at ks)
    after_it i e l =
        same_less key (key_of (slice_index_or ks (at + i) e)) (key_of x) (key_of (slice_index_or (drop at ks) i e)) is (ap key_of (get_or-drop at ks i e))
        (turned key (key_of (slice_index_or ks (at + i) e)) (place.above (at + i) e (omega arith) (omega (arith, l, length-drop at ks))))

    pub inserted : Sets ks key.0 key.1 (Some x.using) (insert ks at x)
    inserted =
        subst (λ (p : List ℕ × ℕ). Sets ks p.0 p.1 (Some x.using) (insert ks at x)) is
        (subst (λ (l : List Kept). Sets l x.station x.tid (Some x.using) (insert ks at x)) (take-append-drop at ks)
        (put_in (take at ks) (drop at ks) x before_it))

    rising_part : (i j : ℕ) (d : Kept) → i < length (take at ks) → j < length (x ∷ drop at ks) →
        key_cmp (key_of (slice_index_or (take at ks) i d)) (key_of (slice_index_or (x ∷ drop at ks) j d)) ≡ Less
    rising_part i zero d l m = before_it i d l
    rising_part i (suc j) d l m =
        let lt : i < at = omega (arith, length-take at ks) in
        let n : j < length (drop at ks) = omega arith in
        rw (get_or-take at ks i d lt, get_or-drop at ks j d) (rising i (at + j) d (omega arith) (omega (arith, n, length-drop at ks)))

    pub rises_inserted : IsRising (insert ks at x)
    rises_inserted =
        rising_append (λ p q. key_cmp (key_of p) (key_of q) ≡ Less) (take at ks) (x ∷ drop at ks)
        (λ i j d lt l.
        let m : j < at = omega (arith, length-take at ks) in
        let n : i < at = omega arith in
        rw (get_or-take at ks i d n, get_or-take at ks j d m) (rising i j d lt (omega (arith, l, length-take at ks))))
        (AllPairs-cons (λ p q. key_cmp (key_of p) (key_of q) ≡ Less) x (drop at ks) after_it
        (λ i j d lt l. rw (get_or-drop at ks i d, get_or-drop at ks j d) (rising (at + i) (at + j) d (omega arith) (omega (arith, l, length-drop at ks)))))
        rising_part
