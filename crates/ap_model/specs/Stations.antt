-- How many stations are associated.
use Rattle.std.specs.Prelude.{◌≡◌, ◌≢◌, ℕ, ◌↔◌, List, length, Contains, AllPairs}
use Rattle.assoc.specs.Standings.{Standings, state_of}

-- exactly n stations are in State 3 (11.3.1): a list without repetition has exactly these, and n of them
pub record AreAssociated (f : Standings) (n : ℕ) : Type 0 where
  pub stations : List (List ℕ)
  pub apart : AllPairs (λ a b. a ≢ b) stations
  pub exact : (a : List ℕ) → Contains stations a ↔ (state_of (f a) ≡ 3)
  pub many : length stations ≡ n
