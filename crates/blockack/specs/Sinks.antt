-- Where a window passes frames up to.
use Rattle.std.specs.Prelude.{◌≡◌, ℕ, ◌≤◌, true, Option, List, [], ◌∷◌, length}
use Rattle.blockack.specs.Reading.{Reading, DataMovesWindow, most_passed}

-- these frames were received, one after another, each with its sequence number
abbrev pub ReceivesAll : {S F : Type 0} → (S → ℕ → F → S → Type 0) → S → List (ℕ × F) → S → Type 0
ReceivesAll R sink [] sink2 = sink2 ≡ sink
ReceivesAll {S} R sink (p ∷ frames) sink2 = (mid : S) × R sink p.0 p.1 mid × ReceivesAll R mid frames sink2

-- data that is taken, from one reading to the next: the frames that the window passes up were received
pub record DataPassesTo {S F : Type 0} (R : S → ℕ → F → S → Type 0) (number : ℕ) (item : Option F) (old new : Reading F) (sink sink2 : S) : Type 0 where
  pub passed : List (ℕ × F)
  pub moves : DataMovesWindow true number item old new passed
  pub few : length passed ≤ most_passed old number
  pub received : ReceivesAll R sink passed sink2
