-- What contracts promise of the page on a number.
use Rattle.std.specs.Prelude.{◌≡◌, ℕ, ◌<◌, ◌^◌, List, ◌++◌, codes, decimal}

-- a page begins with its number
pub record Begins (number : ℕ) (text : List ℕ) : Type 0 where
  pub rest : List ℕ
  pub is : text ≡ decimal number ++ (codes ": " ++ rest)

-- the page on the number that the word spells
pub record IsPageOf (word text : List ℕ) : Type 0 where
  pub number : ℕ
  pub spelled : word ≡ decimal number
  pub begins : Begins number text
