-- A row of values of which some are seen without their label: those with a mark.
use Rattle.std.specs.Prelude.{ℕ, ◌≡◌, ◌≢◌, ◌<◌, ◌+◌, ◌==◌, if◌then◌else◌, Bool, List, [], ◌∷◌}
use Rattle.std.specs.Int.{bit_at}

-- the value at that index has a mark
abbrev pub is_marked : ℕ → ℕ → Bool
is_marked marks index = bit_at marks index == 1

-- all other indices have a mark as before
abbrev pub OthersStay : ℕ → ℕ → ℕ → Type 0
OthersStay index old new = (i : ℕ) → i < 64 → i ≢ index → is_marked new i ≡ is_marked old i

-- a value at that index, changed by g if the index has a mark
abbrev pub seen_at : {X : Type 0} → (X → X) → ℕ → ℕ → X → X
seen_at g marks index x = (if is_marked marks index then g x else x)

-- a row whose first value has that index: each with a mark is changed by g
unfoldable pub seen : {X : Type 0} → (X → X) → ℕ → ℕ → List X → List X
seen g marks first [] = []
seen g marks first (x ∷ xs) = seen_at g marks first x ∷ seen g marks (first + 1) xs
