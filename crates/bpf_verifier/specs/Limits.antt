-- The limits on examined states and on work.
use Rattle.std.specs.Prelude.{ℕ, ◌≤◌, ◌^◌, min, max, Option, Some, None}

-- from one to 2^22 states
abbrev pub IsStateLimit : ℕ → Type 0
IsStateLimit n = (1 ≤ n) × (n ≤ 2 ^ 22)

-- the limit nearest to a number
abbrev pub nearest : ℕ → ℕ
nearest n = min (max n 1) (2 ^ 22)

-- the units of work that are allowed; without a limit as many as can be counted, which no exploration needs
abbrev pub units_of : Option ℕ → ℕ
units_of None = 18446744073709551615
units_of (Some work) = work
