-- Rows that are made of a sorted list are sorted.
use Rattle.std.proofs.Common.{◌≡◌, ℕ, ◌+◌, ◌<◌, zero, suc, List, [], ◌∷◌, length, map, slice_index_or, Result, Ok, Err, IfOk, refl, sym, subst, ◌∙◌, arith}
use Rattle.std.specs.Global.{Vec}
use Rattle.std.specs.List.Sorted.{IsSortedByKey}
use Rattle.std.specs.Ordering.{is_lt}
use Rattle.std.specs.declared.cmp.Ordering.{Ordering}
use Rattle.std.proofs.lemmas.List.{length-map}

module _ {A B : Type 0} (f : A → B) where
  made_at : (xs : List A) (n : ℕ) (a : A) (d : B) → n < length xs → slice_index_or (map f xs) n d ≡ f (slice_index_or xs n a)
  made_at [] n a d l = absurd (omega (arith, l))
  made_at (x ∷ xs) zero a d l = refl
  made_at (x ∷ xs) (suc n) a d l = made_at xs n a d (omega (arith, l))

  pub rising_rows : {K : Type 0} (key : B → K) (cmp : K → K → Ordering) (xs : List A) → IsSortedByKey (λ a. key (f a)) cmp xs → IsSortedByKey key cmp (map f xs)
  rising_rows key cmp [] up k d low l = absurd (omega (arith, l))
  rising_rows key cmp (x ∷ xs) up k d low l =
      let inside : k + 1 < length (x ∷ xs) = omega (arith, l, length-map (x ∷ xs) f) in
      let before : k < length (x ∷ xs) = omega (arith, inside) in
      (λ i. is_lt (cmp (key (made_at (x ∷ xs) (k + 1) x d inside i)) (key (made_at (x ∷ xs) k x d before i)))) ∙ up k x low inside

  -- the same of a call's result
  pub if_rising : {K E : Type 0} (key : B → K) (cmp : K → K → Ordering) (xs : List A) (result : Result (Vec B) E)
      → IfOk result (λ rows. rows.items ≡ map f xs) → IsSortedByKey (λ a. key (f a)) cmp xs → IfOk result (λ rows. IsSortedByKey key cmp rows.items)
  if_rising key cmp xs (Ok rows) are up = subst (λ (l : List B). IsSortedByKey key cmp l) (sym are) (rising_rows key cmp xs up)
  if_rising key cmp xs (Err e) are up = tt
