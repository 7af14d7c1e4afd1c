-- How an agreement changes at an event of its own.
use Rattle.std.specs.Prelude.{◌≡◌, ℕ, Bool, true, Option, Some, List}
use Rattle.blockack.specs.Window.{opening}
use Rattle.blockack.specs.Scoreboard.{ReadsScoreboard, blank}
use Rattle.blockack.specs.Passed.{frame_of}
use Rattle.blockack.specs.Reading.{Reads, DataMovesWindow, RequestMovesWindow, DataMarksScoreboard, RequestMovesScoreboard}
use Rattle.blockack.specs.Sinks.{ReceivesAll}
use Rattle.ap_model.specs.Readings.{Using, Held}

-- it was opened at this time, and nothing has come for it
pub record Opens (start size asked now : ℕ) (u : Using) : Type 0 where
  pub sized : u.window.size ≡ size
  pub opens : Reads (opening start) u.window
  pub blanks : ReadsScoreboard (blank start size) size u.window.scoreboard_start u.window.scoreboard_bits
  pub timeout : u.timeout ≡ asked
  pub last_use : u.last_use ≡ now

-- data came at this time, and its item was taken or not
pub record DataUse (took : Bool) (number : ℕ) (item : Option Held) (clock : ℕ) (old new : Using) (passed : List (ℕ × Held)) : Type 0 where
  pub size : new.window.size ≡ old.window.size
  pub moves : DataMovesWindow took number item old.window new.window passed
  pub marks : DataMarksScoreboard number old.window new.window
  pub timeout : new.timeout ≡ old.timeout
  pub last_use : new.last_use ≡ clock

-- data came at this time that was taken, and a sink received what the window then passed up
pub record PassingUse {S : Type 0} (R : S → ℕ → Held → S → Type 0) (number : ℕ) (item : Option Held) (clock : ℕ) (old new : Using) (sink sink2 : S) : Type 0 where
  pub passed : List (ℕ × Held)
  pub uses : DataUse true number item clock old new passed
  pub received : ReceivesAll R sink passed sink2

-- data came at this time that is passed up at once, and nothing after it: it was taken, whatever its item
abbrev pub AloneUse : ℕ → ℕ → Using → Using → Type 0
AloneUse number clock old new = (item : Option Held) → DataUse true number item clock old new (frame_of number (Some item))

-- a BlockAckReq came at this time
pub record RequestUse (start clock : ℕ) (old new : Using) (passed : List (ℕ × Held)) : Type 0 where
  pub size : new.window.size ≡ old.window.size
  pub moves : RequestMovesWindow start old.window new.window passed
  pub marks : RequestMovesScoreboard start old.window new.window
  pub timeout : new.timeout ≡ old.timeout
  pub last_use : new.last_use ≡ clock
