-- The rule of a journal's book, and what its steps show. The book has a word that counts turns, and one for each turn.
-- A turn is the pen of its word: its owner makes the entry of its number, and until then the journal doesn't grow past
-- it.
use Rattle.std.specs.Prelude.{◌≡◌, ◌==◌, ◌+◌, ◌<◌, ◌≤◌, ℕ, true, List, ◌∷◌, [], ◌++◌, length, MatchBool, ⊤, nat_lt}
use Rattle.logbook.specs.Pages.{Book, Cell, Named, Step, View, cell, nib, may_make}

-- the first word is the number of turns made, and exactly the first `at_home` words are at home
pub record HasTurns (cells : List Cell) (at_home : ℕ) : Type 0 where
  pub counted : (cell cells 0).0 + 1 ≡ length cells
  pub begun : 0 < at_home
  pub ahead : at_home ≤ length cells
  pub home : (k : ℕ) → k < length cells → (cell cells k).1 ≡ nat_lt k at_home

-- the first word of a book
abbrev pub word_of : Book → Named
word_of b = record { tracked = true; key = 0; book = b }

module _ {E : Type 0} where
  -- the words at home are the first one and those of the entries
  abbrev pub IsKept : List Cell → List E → Type 0
  IsKept cells entries = HasTurns cells (length entries + 1)

  -- the turn after the one whose number was found, if that was the expected one
  abbrev pub MakesTurn : Step E → View E ℕ → ℕ → View E ℕ → Type 0
  MakesTurn s v found w = MatchBool (found == s.old) (w.1.0 ≡ nib may_make (s.old + 1) 0) ⊤

  -- the entry was added to all that had been seen
  abbrev pub Adds : Step E → View E ℕ → ℕ → View E ℕ → Type 0
  Adds s v found w = w.0 ≡ v.0 ++ s.ask ∷ []

  -- the turn was kept, and the journal has at most the entries before it
  abbrev pub Looks : Step E → View E ℕ → ℕ → View E ℕ → Type 0
  Looks s v found w = (w.1.0 ≡ v.1.0) × (length w.0 + 1 ≤ v.1.0.key)
