-- Files that are written as their bytes come.
use Rattle.std.specs.Prelude.{◌≡◌, ℕ, List, [], Option, Some, None}

-- no byte is there, as far as is known
abbrev pub IsEmpty : Option (List ℕ) → Type 0
IsEmpty None = Unit {0}
IsEmpty (Some bytes) = bytes ≡ []
