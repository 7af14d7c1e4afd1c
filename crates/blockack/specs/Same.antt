-- Two windows that took the same numbers, whatever their items.
use Rattle.std.specs.Prelude.{◌≡◌, ℕ, ◌<◌, ◌≤◌, Bool, Option, List, is_some}
use Rattle.blockack.specs.Window.{Window, DataStep, RequestStep, EndStep}
use Rattle.blockack.specs.Scoreboard.{ReadsScoreboard, scoreboard_of}
use Rattle.blockack.specs.Reading.{Reading, Reads, window_of, held_at, DataMovesWindow, RequestMovesWindow}

-- they have the same start, and took the same numbers
pub record TookTheSame {F : Type 0} (one other : Window F) : Type 0 where
  pub start : one.start ≡ other.start
  pub numbers : (n : ℕ) → is_some (one.taken n) ≡ is_some (other.taken n)

-- readings of such windows
pub record ReadTheSame {F : Type 0} (one other : Reading F) : Type 0 where
  pub start : one.start ≡ other.start
  pub size : one.size ≡ other.size
  pub held : (i : ℕ) → is_some (held_at one i) ≡ is_some (held_at other i)

-- the same data is taken by both or by neither, and leaves them the same
abbrev pub DataLeavesTheSame : Type 0 → Type 0
DataLeavesTheSame F =
    (size number : ℕ) (item item2 : Option F) (took took2 : Bool) (one other one2 other2 : Window F) →
    TookTheSame one other → DataStep took size number item one one2 → DataStep took2 size number item2 other other2 →
    (took ≡ took2) × TookTheSame one2 other2

-- the same request leaves them the same
abbrev pub RequestLeavesTheSame : Type 0 → Type 0
RequestLeavesTheSame F =
    (number : ℕ) (one other one2 other2 : Window F) →
    TookTheSame one other → RequestStep number one one2 → RequestStep number other other2 → TookTheSame one2 other2

-- so does the end
abbrev pub EndLeavesTheSame : Type 0 → Type 0
EndLeavesTheSame F =
    (one other one2 other2 : Window F) → TookTheSame one other → EndStep one one2 → EndStep other other2 → TookTheSame one2 other2

-- each reading belongs to some window
abbrev pub HaveWindows : Type 0 → Type 0
HaveWindows F = (v : Reading F) → v.start < 4096 → Reads (window_of v) v

-- each first number and bitmap belong to some scoreboard
abbrev pub HaveScoreboards : Type 0
HaveScoreboards = (size start bits : ℕ) → 1 ≤ size → start < 4096 → ReadsScoreboard (scoreboard_of size start bits) size start bits

-- the same for agreements, by their readings
abbrev pub DataReadsTheSame : Type 0 → Type 0
DataReadsTheSame F =
    (number : ℕ) (item item2 : Option F) (took took2 : Bool) (one other one2 other2 : Reading F) (out out2 : List (ℕ × F)) →
    one.start < 4096 → ReadTheSame one other → one2.size ≡ one.size → other2.size ≡ other.size →
    DataMovesWindow took number item one one2 out → DataMovesWindow took2 number item2 other other2 out2 →
    (took ≡ took2) × ReadTheSame one2 other2

-- a request moves windows that read the same to windows that read the same
abbrev pub RequestReadsTheSame : Type 0 → Type 0
RequestReadsTheSame F =
    (number : ℕ) (one other one2 other2 : Reading F) (out out2 : List (ℕ × F)) →
    one.start < 4096 → ReadTheSame one other → one2.size ≡ one.size → other2.size ≡ other.size →
    RequestMovesWindow number one one2 out → RequestMovesWindow number other other2 out2 → ReadTheSame one2 other2
