-- Intervals of signed words.
--
-- A word's place is the word with its sign bit flipped, so places are in signed order: 2 ^ 63 is the place of 0. An
-- interval of signed words is kept as the interval of their places.
use Rattle.std.specs.Prelude.{ℕ, ◌+◌, ◌-◌, ◌^◌, ◌||◌, nat_lt, nat_le, if◌then◌else◌, Option, Some, None, ℤ}
use Rattle.bpf_words.specs.Word.{word_of, signed_place, shifted_right_signed, signed_quotient}
use Rattle.bpf_interval.specs.Interval.{Bounds, InBounds, bounds, bounds_full, bounds_meet}

-- the place of a word
abbrev pub place : ℕ → ℕ
place x = signed_place 64 x

-- the word at a place
abbrev pub word_at : ℕ → ℕ
word_at p = signed_place 64 p

-- x is one of the words whose places are in a
abbrev pub InSigned : Bounds → ℕ → Type 0
InSigned a x = InBounds a (place x)

-- the signed numbers from l to h
abbrev pub signed_bounds : ℤ → ℤ → Bounds
signed_bounds l h = bounds (place (word_of l)) (place (word_of h))

-- b intersected with a, which has the other signedness; b itself if a has both signs
abbrev pub narrowed : Bounds → Bounds → Option Bounds
narrowed a b =
    (if nat_lt a.high (2 ^ 63) || nat_le (2 ^ 63) a.low
    then bounds_meet b (bounds (place a.low) (place a.high)) else Some b)

-- n, if it is a place
abbrev pub in_range : ℕ → Option ℕ
in_range n = (if nat_lt n (2 ^ 64) then Some n else None)

-- the place of the sum of two signed words, from their places, if in range
abbrev pub signed_sum : ℕ → ℕ → Option ℕ
signed_sum p q = (if nat_le (2 ^ 63) (p + q) then in_range (p + q - 2 ^ 63) else None)

-- the difference, likewise
abbrev pub signed_difference : ℕ → ℕ → Option ℕ
signed_difference p q = (if nat_le q (p + 2 ^ 63) then in_range (p + 2 ^ 63 - q) else None)

-- the interval between two ends; all words if an end is missing
abbrev pub between : Option ℕ → Option ℕ → Bounds
between None _ = bounds_full
between (Some l) None = bounds_full
between (Some l) (Some h) = bounds l h

-- sums; all words if an end is out of the signed range
unfoldable pub signed_add : Bounds → Bounds → Bounds
signed_add a b = between (signed_sum a.low b.low) (signed_sum a.high b.high)

-- differences; all words if an end is out of the signed range
unfoldable pub signed_sub : Bounds → Bounds → Bounds
signed_sub a b = between (signed_difference a.low b.high) (signed_difference a.high b.low)

-- the results at both ends of an operation that is monotone in signed order
abbrev pub at_ends : (ℕ → ℕ) → Bounds → Bounds
at_ends f a = bounds (place (f (word_at a.low))) (place (f (word_at a.high)))

-- arithmetic right shifts by one count
unfoldable pub signed_sar : Bounds → ℕ → Bounds
signed_sar a c = at_ends (λ x. shifted_right_signed 64 x c) a

-- quotients by one divisor, which is at least 1
unfoldable pub signed_div : Bounds → ℕ → Bounds
signed_div a c = at_ends (λ x. signed_quotient 64 x c) a

-- remainders: from -(c - 1) to c - 1, on one side of 0 if the interval is
unfoldable pub signed_rem : Bounds → ℕ → Bounds
signed_rem a c =
    bounds (if nat_le (2 ^ 63) a.low then 2 ^ 63 else 2 ^ 63 - (c - 1))
    (if nat_le a.high (2 ^ 63) then 2 ^ 63 else 2 ^ 63 + (c - 1))

-- the signed numbers of n bits: from -2 ^ (n - 1) to 2 ^ (n - 1) - 1
unfoldable pub signed_of_bits : ℕ → Bounds
signed_of_bits n = bounds (2 ^ 63 - 2 ^ (n - 1)) (2 ^ 63 + 2 ^ (n - 1) - 1)
