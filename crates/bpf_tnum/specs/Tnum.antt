-- Tristate numbers: which numbers they stand for, and what the operations on them give.
use Rattle.std.specs.Prelude.{ℕ, ◌≡◌, ◌+◌, ◌-◌, ◌%◌, ◌^◌, ◌<◌, min, bit_and, bit_or, bit_xor, Bool, ◌&&◌, nat_lt, nat_eq, if◌then◌else◌, Option, Some, None}
use Rattle.std.specs.Int.{trailing_zeros, w64}
use Rattle.bpf_words.specs.Word.{word_add, word_sub, word_not}

-- a bit of `value` is known if that bit of `mask` is 0
pub record Bits : Type 0 where
  pub value : ℕ
  pub mask : ℕ

-- x is one of the numbers that t stands for
pub record InTnum (t : Bits) (x : ℕ) : Type 0 where
  pub mask_is_word : t.mask < 2 ^ 64
  pub is_word : x < 2 ^ 64
  pub known : bit_and x (word_not t.mask) ≡ t.value

-- the tristate number with this value and mask
abbrev pub tnum_of : ℕ → ℕ → Bits
tnum_of v m = record { value = v; mask = m }

-- sums; a bit is known if both operands know it and the least and the greatest sum agree on it
unfoldable pub tnum_add : Bits → Bits → Bits
tnum_add a b =
    let sum = word_add a.value b.value in
    let mu = bit_or (bit_or (bit_xor (word_add (word_add a.mask b.mask) sum) sum) a.mask) b.mask in
    record { value = bit_and sum (word_not mu); mask = mu }

-- differences; a bit is known if both operands know it and the least and the greatest difference agree on it
unfoldable pub tnum_sub : Bits → Bits → Bits
tnum_sub a b =
    let difference = word_sub a.value b.value in
    let mu = bit_or (bit_or (bit_xor (word_add difference a.mask) (word_sub difference b.mask)) a.mask) b.mask in
    record { value = bit_and difference (word_not mu); mask = mu }

-- bitwise AND: a bit that is 0 in either operand is known to be 0
unfoldable pub tnum_and : Bits → Bits → Bits
tnum_and a b =
    let v = bit_and a.value b.value in
    record {
      value = v;
      mask = bit_and (bit_and (bit_or a.value a.mask) (bit_or b.value b.mask)) (word_not v);
    }

-- bitwise OR: a bit that is 1 in either operand is known to be 1
unfoldable pub tnum_or : Bits → Bits → Bits
tnum_or a b =
    let v = bit_or a.value b.value in
    record { value = v; mask = bit_and (bit_or a.mask b.mask) (word_not v) }

-- bitwise XOR: a bit is known if both operands know it
unfoldable pub tnum_xor : Bits → Bits → Bits
tnum_xor a b =
    let mu = bit_or a.mask b.mask in
    record { value = bit_and (bit_xor a.value b.value) (word_not mu); mask = mu }

-- no bit is known: all words
abbrev pub tnum_full : Bits
tnum_full = record { value = 0; mask = 2 ^ 64 - 1 }

-- all bits are known: one word
abbrev pub tnum_single : ℕ → Bits
tnum_single n = record { value = n; mask = 0 }

-- the lowest t bits are 0, the others unknown
unfoldable pub tnum_low : ℕ → Bits
tnum_low t = record { value = 0; mask = 2 ^ 64 - 2 ^ t }

-- how many lowest bits are 0 in each number of a
abbrev pub tnum_zeros : Bits → ℕ
tnum_zeros a = trailing_zeros w64 (bit_or a.value a.mask)

-- products: the known low zeros of both add up
unfoldable pub tnum_mul : Bits → Bits → Bits
tnum_mul a b = tnum_low (min (tnum_zeros a + tnum_zeros b) 64)

-- left shifts: c more known low zeros
unfoldable pub tnum_shl : Bits → ℕ → Bits
tnum_shl a c = tnum_low (min (tnum_zeros a + c) 64)

-- right shifts: c fewer known low zeros
unfoldable pub tnum_shr : Bits → ℕ → Bits
tnum_shr a c = (if nat_lt c (tnum_zeros a) then tnum_low (tnum_zeros a - c) else tnum_full)

-- the low w bits
unfoldable pub tnum_cut : ℕ → Bits → Bits
tnum_cut w a = record { value = a.value % 2 ^ w; mask = a.mask % 2 ^ w }

-- the intersection; None if a bit is known to be 0 in one and 1 in the other
unfoldable pub tnum_meet : Bits → Bits → Option Bits
tnum_meet a b =
    let mu = bit_and a.mask b.mask in
    (if nat_eq (bit_and (bit_and (bit_xor a.value b.value) (word_not a.mask)) (word_not b.mask)) 0
    then Some (record { value = bit_and (bit_or a.value b.value) (word_not mu); mask = mu })
    else None)

-- each word of a is one of b
unfoldable pub tnum_included : Bits → Bits → Bool
tnum_included a b =
    nat_eq (bit_and (bit_xor a.value b.value) (word_not b.mask)) 0
    && nat_eq (bit_and a.mask (word_not b.mask)) 0
