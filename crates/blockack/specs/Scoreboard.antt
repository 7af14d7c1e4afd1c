-- The scoreboard of an agreement in full-state operation, over whole numbers that never wrap (IEEE 802.11-2016, 10.24.7.3).
use Rattle.std.specs.Prelude.{◌≡◌, ℕ, ◌+◌, ◌-◌, ◌^◌, ◌%◌, ◌<◌, ◌≤◌, ◌==◌, nat_lt, max, Bool, true, false, cond, ◌⊎◌}
use Rattle.std.specs.Int.{bit_at}
use Rattle.blockack.specs.Window.{IsUnwrapped}

-- the set of numbers that came, and the last number of the scoreboard's window
pub record Scoreboard : Type 0 where
  pub came : ℕ → Bool
  pub end : ℕ

-- a scoreboard to which nothing came, of an agreement with this start and size
abbrev pub blank : ℕ → ℕ → Scoreboard
blank start size = record { came = λ _. false; end = start + size - 1 }

-- the first number of the scoreboard's window
abbrev pub first_number : ℕ → Scoreboard → ℕ
first_number size board = board.end + 1 - size

-- the set with n added
abbrev pub with_number : (ℕ → Bool) → ℕ → ℕ → Bool
with_number came n k = cond (k == n) true (came k)

-- bit i of `bits` says whether number i after the first one came, and `start` is the first one modulo 4096
pub record ReadsScoreboard (board : Scoreboard) (size start bits : ℕ) : Type 0 where
  pub begins : size ≤ board.end + 1
  pub residue : start ≡ first_number size board % 4096
  pub numbers : (i : ℕ) → board.came (first_number size board + i) ≡ (bit_at bits i == 1)

-- the scoreboard that begins at `start`, to which exactly the numbers of the bits came
abbrev pub scoreboard_of : ℕ → ℕ → ℕ → Scoreboard
scoreboard_of size start bits = record { came = λ k. cond (nat_lt k start) false (bit_at bits (k - start) == 1); end = start + size - 1 }

-- data in the scoreboard's window or after it: its number came, and if it is after the window's end, the window ends
-- at it
pub record Marks (size number : ℕ) (old new : Scoreboard) : Type 0 where
  pub n : ℕ
  pub is : IsUnwrapped (first_number size old) number n
  pub from_start : first_number size old ≤ n
  pub gains : new.came ≡ with_number old.came n
  pub ends : new.end ≡ max old.end n

-- data before it
pub record Ignores (size number : ℕ) (old new : Scoreboard) : Type 0 where
  pub other : (n : ℕ) → IsUnwrapped (first_number size old) number n → first_number size old ≤ n → ⊥
  pub stays : new ≡ old

-- a request beyond the first number makes its number the first one
pub record Begins (size number : ℕ) (old new : Scoreboard) : Type 0 where
  pub n : ℕ
  pub is : IsUnwrapped (first_number size old) number n
  pub beyond : first_number size old < n
  pub same : new.came ≡ old.came
  pub ends : new.end + 1 ≡ n + size

-- a request that isn't beyond it
pub record Keeps (size number : ℕ) (old new : Scoreboard) : Type 0 where
  pub other : (n : ℕ) → IsUnwrapped (first_number size old) number n → first_number size old < n → ⊥
  pub stays : new ≡ old

-- the step of a scoreboard of this size at data
abbrev pub DataMark : ℕ → ℕ → Scoreboard → Scoreboard → Type 0
DataMark size number old new = Marks size number old new ⊎ Ignores size number old new

-- its step at a BlockAckReq
abbrev pub RequestMark : ℕ → ℕ → Scoreboard → Scoreboard → Type 0
RequestMark size number old new = Begins size number old new ⊎ Keeps size number old new

-- the scoreboard after data reads as `start` and `bits`
pub record AfterDataMark (size number : ℕ) (old : Scoreboard) (start bits : ℕ) : Type 0 where
  pub next : Scoreboard
  pub step : DataMark size number old next
  pub reads : ReadsScoreboard next size start bits

-- the same after a BlockAckReq
pub record AfterRequestMark (size number : ℕ) (old : Scoreboard) (start bits : ℕ) : Type 0 where
  pub next : Scoreboard
  pub step : RequestMark size number old next
  pub reads : ReadsScoreboard next size start bits

-- data, for every scoreboard that reads as the first numbers: after it the scoreboard reads as the others
abbrev pub DataMarks : ℕ → ℕ → ℕ → ℕ → ℕ → ℕ → Type 0
DataMarks size number start bits start2 bits2 =
    (board : Scoreboard) → ReadsScoreboard board size start bits → AfterDataMark size number board start2 bits2

-- the same for a request
abbrev pub RequestMarks : ℕ → ℕ → ℕ → ℕ → ℕ → ℕ → Type 0
RequestMarks size number start bits start2 bits2 =
    (board : Scoreboard) → ReadsScoreboard board size start bits → AfterRequestMark size number board start2 bits2

-- the bitmap's invariant: no bit is set beyond the window
pub record IsSoundBitmap (size start bits : ℕ) : Type 0 where
  pub start_fits : start < 4096
  pub bits_fit : bits < 2 ^ size
