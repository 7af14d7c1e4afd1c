-- Rows that grow, and rows in which one element changes.
use Rattle.std.proofs.Common.{◌≡◌, ◌≢◌, ◌<◌, ◌≤◌, ◌⊎◌, ℕ, List, [], ◌∷◌, ◌++◌, length, set, slice_get, slice_set, get_or, Some, None, ⊎_elim, refl, sym, ap, ◌∙◌, subst, arith}
use Rattle.std.proofs.lemmas.List.{length-set, length_push, get_or_push, get_or_append_left, get_or-set_same, get_or-set_other}
use Rattle.std.proofs.lemmas.Option.{slice_get_within, slice_get-get_or, get_or_from_slice_get, same_Some, slice_get_cases}
use mathlib.Core.Logic.{dite}
use native.Mathlib.Decide.{ℕ_discrete}
use Rattle.ap_rows.specs.Rows.{Stand, Rows}

-- an index has one element
pub one_value : {A : Type 0} (xs : List A) (at : ℕ) (x y : A) → slice_get xs at ≡ Some x → slice_get xs at ≡ Some y → x ≡ y
one_value xs at x y here there = same_Some x y (sym here ∙ there)

-- an element that indexing found
pub found : {A : Type 0} (xs : List A) (at : ℕ) (x : A) → at < length xs → x ≡ get_or xs at x → slice_get xs at ≡ Some x
found xs at x low is = slice_get-get_or xs at x low ∙ ap (λ (y : _). Some y) (sym is)

-- what was put is there
pub put_there : {A : Type 0} (xs : List A) (at : ℕ) (x : A) → at < length xs → slice_get (slice_set xs at x) at ≡ Some x
put_there xs at x low =
    slice_get-get_or (set xs at x) at x (subst (λ (n : ℕ). at < n) (sym (length-set xs at x)) low) ∙ ap (λ (y : _). Some y) (get_or-set_same xs at x x low)

-- the other elements are unchanged
pub beside : {A : Type 0} (xs : List A) (at other : ℕ) (a b : A) → other ≢ at → slice_get (slice_set xs at a) other ≡ Some b → slice_get xs other ≡ Some b
beside xs at other a b apart there =
    slice_get-get_or xs other b (subst (λ (n : ℕ). other < n) (length-set xs at a) (slice_get_within (set xs at a) other b there))
    ∙ ap (λ (x : _). Some x) (sym (get_or-set_other xs at other a b apart) ∙ get_or_from_slice_get (set xs at a) other b b there)

-- the last element of a list that grew
pub last_is : {A : Type 0} (xs : List A) (x : A) (at : ℕ) (a : A) → at ≡ length xs → slice_get (xs ++ x ∷ []) at ≡ Some a → x ≡ a
last_is xs x at a e there = sym (get_or_push xs x x at (sym e)) ∙ get_or_from_slice_get (xs ++ x ∷ []) at a x there

-- the earlier elements are unchanged
pub earlier : {A : Type 0} (xs : List A) (x : A) (at : ℕ) (a : A) → at ≢ length xs → slice_get (xs ++ x ∷ []) at ≡ Some a → slice_get xs at ≡ Some a
earlier xs x at a ne there =
    let low : at < length (xs ++ x ∷ []) = slice_get_within (xs ++ x ∷ []) at a there in
    let below : at < length xs = omega (arith, length_push xs x) in
    slice_get-get_or xs at a below ∙ ap (λ (v : _). Some v) (sym (get_or_append_left xs (x ∷ []) a at below) ∙ get_or_from_slice_get (xs ++ x ∷ []) at a a there)

-- lists of the same length have elements at the same indices
pub there_too : {A B : Type 0} (xs : List A) (ys : List B) (at : ℕ) (y : B) → length ys ≡ length xs → slice_get ys at ≡ Some y → (x : A) × (slice_get xs at ≡ Some x)
there_too {A} {B} xs ys at y same here = ⊎_elim
    (λ (there : (x : A) × (at < length xs) × (slice_get xs at ≡ Some x) × (get_or xs at x ≡ x)). (there.0, there.2))
    (λ (past : (length xs ≤ at) × (slice_get xs at ≡ None)). let low : at < length ys = slice_get_within ys at y here in absurd (omega arith))
    (slice_get_cases xs at).1

module _ {A B : Type 0} (R : A → B → Type 0) where
  -- R holds of equal elements
  stands_too : (x a : A) (y b : B) → x ≡ a → y ≡ b → R x y → R a b
  stands_too x a y b a_is b_is holds = subst (λ (u : A). R u b) a_is (subst (λ (v : B). R x v) b_is holds)

  pub stand_none : (xs : List A) → Stand R xs []
  stand_none xs at x y here there = let low : at < 0 = slice_get_within {A = B} [] at y there in absurd (omega arith)

  -- one more element in the second list
  pub stand_push : (xs : List A) (ys ys' : List B) (x : A) (y : B) → slice_get xs (length ys) ≡ Some x → ys' ≡ ys ++ y ∷ [] → R x y → Stand R xs ys → Stand R xs ys'
  stand_push xs ys ys' x y here are holds stand at a b this that' =
      let that : slice_get (ys ++ y ∷ []) at ≡ Some b = subst (λ (zs : List B). slice_get zs at ≡ Some b) are that' in
      dite (ℕ_discrete at (length ys))
      (λ e. stands_too x a y b (one_value xs at x a (subst (λ (n : ℕ). slice_get xs n ≡ Some x) (sym e) here) this) (last_is ys y at b e that) holds)
      (λ ne. stand at a b this (earlier ys y at b ne that))

  -- one more element in both
  pub stand_grow : (xs xs' : List A) (ys ys' : List B) (x : A) (y : B) → length ys ≡ length xs → xs' ≡ xs ++ x ∷ [] → ys' ≡ ys ++ y ∷ [] → R x y → Stand R xs ys → Stand R xs' ys'
  stand_grow xs xs' ys ys' x y many are are' holds stand at a b this' that' =
      let this : slice_get (xs ++ x ∷ []) at ≡ Some a = subst (λ (zs : List A). slice_get zs at ≡ Some a) are this' in
      let that : slice_get (ys ++ y ∷ []) at ≡ Some b = subst (λ (zs : List B). slice_get zs at ≡ Some b) are' that' in
      dite (ℕ_discrete at (length xs))
      (λ e. stands_too x a y b (last_is xs x at a e this) (last_is ys y at b (e ∙ sym many) that) holds)
      (λ ne. stand at a b (earlier xs x at a ne this) (earlier ys y at b (λ e. ne (e ∙ many)) that))

  -- one element of the second list is replaced
  pub stand_set : (xs : List A) (ys : List B) (k : ℕ) (x : A) (y : B) → k < length ys → slice_get xs k ≡ Some x → R x y → Stand R xs ys → Stand R xs (slice_set ys k y)
  stand_set xs ys k x y low here holds stand at a b this that = dite (ℕ_discrete at k)
      (λ e.
      let a_is : x ≡ a = one_value xs at x a (subst (λ (n : ℕ). slice_get xs n ≡ Some x) (sym e) here) this in
      let b_is : y ≡ b = one_value (slice_set ys k y) at y b (subst (λ (n : ℕ). slice_get (slice_set ys k y) n ≡ Some y) (sym e) (put_there ys k y low)) that in
      stands_too x a y b a_is b_is holds)
      (λ ne. stand at a b this (beside ys k at y b ne that))

  -- an element of the first list past the end of the second is replaced
  pub stand_left : (xs : List A) (ys : List B) (k : ℕ) (x : A) → length ys ≤ k → Stand R xs ys → Stand R (slice_set xs k x) ys
  stand_left xs ys k x past stand at a b this that =
      let low : at < length ys = slice_get_within ys at b that in
      stand at a b (beside xs k at x a (λ e. absurd (omega arith)) this) that

  -- the same for rows
  pub rows_set : (xs : List A) (ys : List B) (k : ℕ) (x : A) (y : B) → slice_get xs k ≡ Some x → R x y → Rows R xs ys → Rows R xs (slice_set ys k y)
  rows_set xs ys k x y here holds rows = record {
    as_many = length-set ys k y ∙ rows.as_many;
    each =
        let low : k < length xs = slice_get_within xs k x here in
        let many : length ys ≡ length xs = rows.as_many in
        stand_set xs ys k x y (omega arith) here holds rows.each;
  }

  -- the elements that indexing finds at one index of rows
  pub rows_at : (xs : List A) (ys : List B) (k : ℕ) (x : A) (y : B) → k < length xs → x ≡ get_or xs k x → y ≡ get_or ys k y → Rows R xs ys → R x y
  rows_at xs ys k x y low x_is y_is rows =
      let many : length ys ≡ length xs = rows.as_many in
      rows.each k x y (found xs k x low x_is) (found ys k y (omega arith) y_is)

  -- rows in which the element that indexing finds is replaced
  pub rows_set_at : (xs : List A) (ys : List B) (k : ℕ) (x : A) (y : B) → k < length xs → x ≡ get_or xs k x → R x y → Rows R xs ys → Rows R xs (slice_set ys k y)
  rows_set_at xs ys k x y low x_is holds rows = rows_set xs ys k x y (found xs k x low x_is) holds rows
