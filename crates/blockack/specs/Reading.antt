-- What a contract sees of an agreement, and how this relates to its window and scoreboard over whole numbers.
use Rattle.std.specs.Prelude.{◌≡◌, ℕ, ◌+◌, ◌-◌, ◌%◌, ◌<◌, ◌↔◌, ◌&&◌, IsTrue, nat_lt, cond, Option, None, List, Bool, is_some, count_by, slice_index_or}
use Rattle.blockack.specs.Window.{Items, Window, Brings, DataStep, RequestStep, EndStep}
use Rattle.blockack.specs.Passed.{PassesUp}
use Rattle.blockack.specs.Scoreboard.{DataMarks, RequestMarks}
use Rattle.blockack.specs.Ring.{ahead}

-- the window's start modulo 4096, its size, what is held from its start on, and the scoreboard: its first number
-- modulo 4096, and a bit for each number from there on
pub record Reading (F : Type 0) : Type 0 where
  pub start : ℕ
  pub size : ℕ
  pub held : List (Option (Option F))
  pub scoreboard_start : ℕ
  pub scoreboard_bits : ℕ

module _ {F : Type 0} where
  -- what is held at the window's start + i
  unfoldable pub held_at : Reading F → Items F
  held_at v i = slice_index_or v.held i None

  -- the reading belongs to this window
  pub record Reads (window : Window F) (v : Reading F) : Type 0 where
    pub residue : v.start ≡ window.start % 4096
    pub held : (i : ℕ) → window.taken (window.start + i) ≡ held_at v i

  -- the window with this reading that took just what is held
  abbrev pub window_of : Reading F → Window F
  window_of v = record { taken = λ k. cond (nat_lt k v.start) None (held_at v (k - v.start)); start = v.start }

  -- data with this sequence number is in the window or after it, and nothing is held for it
  pub record IsWanted (v : Reading F) (number : ℕ) : Type 0 where
    pub near : ahead v.start number < 2048
    pub free : held_at v (ahead v.start number) ≡ None

  -- data with this sequence number is wanted, it is the window's first, and nothing is held for the next number
  pub record IsAlone (v : Reading F) (number : ℕ) : Type 0 where
    pub wanted : IsWanted v number
    pub first : number ≡ v.start
    pub next : held_at v 1 ≡ None

  -- how many numbers are held, including those of dropped frames
  unfoldable pub numbers_held : Reading F → ℕ
  numbers_held v = count_by is_some v.held

  -- a bound on the frames that data with this sequence number passes up: 0 if it is in the window after the first
  -- number, for which it waits, otherwise one more than are held
  abbrev pub most_passed : Reading F → ℕ → ℕ
  most_passed v number =
      cond (nat_lt 0 (ahead v.start number) && nat_lt (ahead v.start number) v.size) 0 (numbers_held v + 1)

  -- data with this sequence number is wanted, and waits in the window: it passes nothing up
  pub record IsWaiting (v : Reading F) (number : ℕ) : Type 0 where
    pub wanted : IsWanted v number
    pub none : most_passed v number ≡ 0

  -- the answer whether data would be taken is right for every window with this reading
  abbrev pub TellsWanted : Bool → Reading F → ℕ → Type 0
  TellsWanted answer v number = (window : Window F) → Reads window v → (IsTrue answer ↔ ((n : ℕ) × Brings window number n))

  -- the window after data reads as `new`, and passes up `out`
  pub record AfterData (took : Bool) (size number : ℕ) (item : Option F) (window : Window F) (new : Reading F) (out : List (ℕ × F)) : Type 0 where
    pub next : Window F
    pub step : DataStep took size number item window next
    pub reads : Reads next new
    pub passes : PassesUp window next out

  -- the same after a BlockAckReq
  pub record AfterRequest (number : ℕ) (window : Window F) (new : Reading F) (out : List (ℕ × F)) : Type 0 where
    pub next : Window F
    pub step : RequestStep number window next
    pub reads : Reads next new
    pub passes : PassesUp window next out

  -- the window after the end passes up `out`
  pub record AfterEnd (window : Window F) (out : List (ℕ × F)) : Type 0 where
    pub next : Window F
    pub step : EndStep window next
    pub passes : PassesUp window next out

  -- the calls, for every window and scoreboard with the reading
  abbrev pub DataMovesWindow : Bool → ℕ → Option F → Reading F → Reading F → List (ℕ × F) → Type 0
  DataMovesWindow took number item old new out = (window : Window F) → Reads window old → AfterData took old.size number item window new out

  abbrev pub RequestMovesWindow : ℕ → Reading F → Reading F → List (ℕ × F) → Type 0
  RequestMovesWindow number old new out = (window : Window F) → Reads window old → AfterRequest number window new out

  abbrev pub EndPassesUp : Reading F → List (ℕ × F) → Type 0
  EndPassesUp old out = (window : Window F) → Reads window old → AfterEnd window out

  abbrev pub DataMarksScoreboard : ℕ → Reading F → Reading F → Type 0
  DataMarksScoreboard number old new =
      DataMarks old.size number old.scoreboard_start old.scoreboard_bits new.scoreboard_start new.scoreboard_bits

  abbrev pub RequestMovesScoreboard : ℕ → Reading F → Reading F → Type 0
  RequestMovesScoreboard number old new =
      RequestMarks old.size number old.scoreboard_start old.scoreboard_bits new.scoreboard_start new.scoreboard_bits
