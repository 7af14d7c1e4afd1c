-- Text that is written in parts.
use Rattle.std.specs.Prelude.{◌≡◌, ℕ, List, ◌++◌, Option}
use Rattle.std.specs.Io.KnownBytes.{Appends}

-- a prefix of the text was written, and this is left
pub record MovesOn (old new : Option (List ℕ)) (text left : List ℕ) : Type 0 where
  pub taken : List ℕ
  pub whole : text ≡ taken ++ left
  pub appended : Appends old new taken
