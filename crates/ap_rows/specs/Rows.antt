-- Two lists whose elements at each index belong together.
use Rattle.std.specs.Prelude.{◌≡◌, ℕ, List, length, slice_get, Some}

-- R holds at each index at which both lists have an element
abbrev pub Stand : {A B : Type 0} → (A → B → Type 0) → List A → List B → Type 0
Stand {A} {B} R xs ys =
    (at : ℕ) (x : A) (y : B) → slice_get xs at ≡ Some x → slice_get ys at ≡ Some y → R x y

-- the lists have the same length, and R holds at each index
pub record Rows {A B : Type 0} (R : A → B → Type 0) (xs : List A) (ys : List B) : Type 0 where
  pub as_many : length ys ≡ length xs
  pub each : Stand R xs ys
