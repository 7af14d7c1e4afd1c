-- What the timed-out ones hold.
use Rattle.std.proofs.Common.{◌≡◌, ℕ, ◌+◌, Bool, true, false, cond, List, [], ◌∷◌, filter, refl, sym, ap, ◌∙◌, arith}
use Rattle.std.specs.Prelude.{sum_by}
use Rattle.std.proofs.lemmas.List.Sums.{sum_by-cons}

module _ {X : Type 0} (p : X → Bool) (f : X → ℕ) where
  -- the sum over those that pass a test
  one : (x : X) (passing : List X) (rest : ℕ) → sum_by f passing ≡ rest → (b : Bool) → sum_by f (cond b (x ∷ passing) passing) ≡ cond b (f x) 0 + rest
  one x passing rest h true = sum_by-cons f x passing ∙ ap (λ n. f x + n) h
  one x passing rest h false = h ∙ omega arith

  pub sum_passing : (xs : List X) → sum_by f (filter p xs) ≡ sum_by (λ x. cond (p x) (f x) 0) xs
  sum_passing [] = refl
  sum_passing (x ∷ xs) = one x (filter p xs) (sum_by (λ y. cond (p y) (f y) 0) xs) (sum_passing xs) (p x) ∙ sym (sum_by-cons (λ y. cond (p y) (f y) 0) x xs)
