-- Prefixes of a journal, and who may add to it.
use Rattle.std.specs.Prelude.{◌≡◌, ◌+◌, ℕ, List, [], ◌∷◌, ◌++◌, length, Option, Some, IfSome}
use mathlib.Core.List.{IsPrefix}
use Rattle.logbook.specs.Pages.{Book}

-- a prefix of a journal: which journal it is, and the entries
pub record Beginning (E : Type 0) : Type 0 where
  pub journal : Book
  pub entries : List E

-- the right to add to a journal: which journal it is, and, if the next entry is prepared, how many there are with it
pub record Right : Type 0 where
  pub journal : Book
  pub turn : Option ℕ

module _ {E : Type 0} where
  -- the prefix with one more entry
  abbrev pub with_entry : Beginning E → E → Beginning E
  with_entry k e = record { journal = k.journal; entries = k.entries ++ e ∷ [] }

  -- a prefix of a journal, and one that extends it
  pub record Begins (earlier later : Beginning E) : Type 0 where
    pub same_journal : later.journal ≡ earlier.journal
    pub has_all : IsPrefix earlier.entries later.entries

  -- the right is to add after these entries
  pub record MayAdd (a : Right) (k : Beginning E) : Type 0 where
    pub same_journal : a.journal ≡ k.journal
    pub next : IfSome a.turn (λ n. n ≡ length k.entries + 1)

  -- the entry after these can be added
  pub record IsPrepared (a : Right) (k : Beginning E) : Type 0 where
    pub same_journal : a.journal ≡ k.journal
    pub next : a.turn ≡ Some (length k.entries + 1)
