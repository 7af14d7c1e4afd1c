-- The numbers that calls return.
use Rattle.std.specs.Prelude.{◌≡◌, ◌⊎◌, ℕ, Option, Some, None, Result, Ok, Err}
use Rattle.apd_c.specs.declared.answer.Answer.{Answer}

-- a number without a slot
abbrev pub answer : ℕ → Answer
answer number = record { number = number; slot = 0 }

-- 0, or the number of the refusal
abbrev pub number_in : {X : Type 0} → Result X ℕ → ℕ
number_in (Ok x) = 0
number_in (Err number) = number

-- the same for a refusal that returns something
abbrev pub number_with : {X Y : Type 0} → Result X (ℕ × Y) → ℕ
number_with (Ok x) = 0
number_with (Err refusal) = refusal.0

-- the call succeeded
abbrev pub IsDone : ℕ → Type 0
IsDone number = number ≡ 0

-- this refusal exactly if P doesn't hold; otherwise `next`
abbrev pub Unless : {X : Type 0} → Type 0 → X → (X → Type 0) → X → Type 0
Unless P refusal next x = ((P → ⊥) × (x ≡ refusal)) ⊎ (P × next x)

-- this refusal exactly if there is none; otherwise `next` of it
abbrev pub UnlessSome : {A X : Type 0} → Option A → X → (A → X → Type 0) → X → Type 0
UnlessSome None refusal next x = x ≡ refusal
UnlessSome (Some a) refusal next x = next a x

-- this refusal exactly if there is one; otherwise `next`
abbrev pub UnlessNone : {A X : Type 0} → Option A → X → (X → Type 0) → X → Type 0
UnlessNone None refusal next x = next x
UnlessNone (Some a) refusal next x = x ≡ refusal

-- perhaps this refusal; otherwise `next`
abbrev pub Perhaps : {X : Type 0} → X → (X → Type 0) → X → Type 0
Perhaps refusal next x = (x ≡ refusal) ⊎ next x
