-- Intervals of words: which words they stand for, and what the operations on them return.
use Rattle.std.specs.Prelude.{ℕ, ◌+◌, ◌-◌, ◌*◌, ◌/◌, ◌^◌, ◌<◌, ◌≤◌, min, max, nat_lt, nat_le, nat_eq, Bool, ◌&&◌, if◌then◌else◌, Option, Some, None}

-- the words from low to high, both included
pub record Bounds : Type 0 where
  pub low : ℕ
  pub high : ℕ

-- x is one of the words that a stands for
pub record InBounds (a : Bounds) (x : ℕ) : Type 0 where
  pub above : a.low ≤ x
  pub below : x ≤ a.high
  pub fits : a.high < 2 ^ 64

-- the interval with these two ends
abbrev pub bounds : ℕ → ℕ → Bounds
bounds l h = record { low = l; high = h }

-- all words
abbrev pub bounds_full : Bounds
bounds_full = record { low = 0; high = 2 ^ 64 - 1 }

-- sums; all words if one might wrap
abbrev pub bounds_add : Bounds → Bounds → Bounds
bounds_add a b =
    (if nat_lt (a.high + b.high) (2 ^ 64)
    then bounds (a.low + b.low) (a.high + b.high) else bounds_full)

-- differences; all words if one might wrap
abbrev pub bounds_sub : Bounds → Bounds → Bounds
bounds_sub a b =
    (if nat_le b.high a.low then bounds (a.low - b.high) (a.high - b.low) else bounds_full)

-- bitwise AND is at most each operand
abbrev pub bounds_and : Bounds → Bounds → Bounds
bounds_and a b = bounds 0 (min a.high b.high)

-- bitwise OR is at least each operand
abbrev pub bounds_or : Bounds → Bounds → Bounds
bounds_or a b = bounds (max a.low b.low) (2 ^ 64 - 1)

-- products; all words if one might wrap
abbrev pub bounds_mul : Bounds → Bounds → Bounds
bounds_mul a b =
    (if nat_lt (a.high * b.high) (2 ^ 64)
    then bounds (a.low * b.low) (a.high * b.high) else bounds_full)

-- quotients; a quotient by 0 is 0
abbrev pub bounds_div : Bounds → Bounds → Bounds
bounds_div a b =
    (if nat_le 1 b.low then bounds (a.low / b.high) (a.high / b.low) else bounds 0 a.high)

-- remainders; a remainder by 0 is the dividend
abbrev pub bounds_rem : Bounds → Bounds → Bounds
bounds_rem a b = (if nat_le 1 b.low then bounds 0 (min a.high (b.high - 1)) else bounds 0 a.high)

-- left shifts by one count; all words if a bit may be lost
abbrev pub bounds_shl : Bounds → ℕ → Bounds
bounds_shl a c =
    (if nat_le a.high ((2 ^ 64 - 1) / 2 ^ c)
    then bounds (a.low * 2 ^ c) (a.high * 2 ^ c) else bounds_full)

-- right shifts by one count
abbrev pub bounds_shr : Bounds → ℕ → Bounds
bounds_shr a c = bounds (a.low / 2 ^ c) (a.high / 2 ^ c)

-- the low 32 bits; all 32-bit words if a word is greater
abbrev pub bounds_cut : Bounds → Bounds
bounds_cut a = (if nat_lt a.high (2 ^ 32) then a else bounds 0 (2 ^ 32 - 1))

-- the words of n bits
unfoldable pub bounds_of_bits : ℕ → Bounds
bounds_of_bits n = bounds 0 (2 ^ n - 1)

-- ---- refinement by branches

-- the interval between two ends, if not empty
abbrev pub ordered : ℕ → ℕ → Option Bounds
ordered l h = (if nat_le l h then Some (bounds l h) else None)

-- the intersection
abbrev pub bounds_meet : Bounds → Bounds → Option Bounds
bounds_meet a b = ordered (max a.low b.low) (min a.high b.high)

-- the first is greater than the second
abbrev pub after_greater : Bounds → Bounds → Option (Bounds × Bounds)
after_greater a b =
    (if nat_lt b.low a.high
    then Some (bounds (max a.low (b.low + 1)) a.high, bounds b.low (min b.high (a.high - 1)))
    else None)

-- the first is at most the second
abbrev pub after_at_most : Bounds → Bounds → Option (Bounds × Bounds)
after_at_most a b =
    (if nat_le a.low b.high
    then Some (bounds a.low (min a.high b.high), bounds (max b.low a.low) b.high) else None)

-- the word isn't c: an end that equals c moves by one
abbrev pub without_end : Bounds → ℕ → Option Bounds
without_end a c =
    (if nat_eq a.low c then ordered (a.low + 1) a.high
    else (if nat_eq a.high c then Some (bounds a.low (a.high - 1)) else Some a))

-- each word of a is one of b
abbrev pub bounds_included : Bounds → Bounds → Bool
bounds_included a b = nat_le b.low a.low && nat_le a.high b.high
