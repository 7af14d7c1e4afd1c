-- What membership of x in a tristate number says of the bits of x.
use Rattle.std.proofs.Common.{ℕ, ◌≡◌, ◌+◌, ◌-◌, ◌^◌, ◌<◌, min, max, sym, ap, ◌∙◌, arith, bit_and, bit_or}
use Rattle.std.specs.Int.{bit_at, w64}
use Rattle.std.proofs.lemmas.Nat.{and_le_l, or_lt, or_disjoint}
use Rattle.std.proofs.lemmas.Nat.Bits.{bit_at-lt, bit_at_and, bit_at_or, bit_at_not, bit_at-zero, same_from_bits_below}
use Rattle.bpf_words.specs.Word.{word_not}
use Rattle.bpf_tnum.specs.Tnum.{Bits, InTnum}
use Rattle.bpf_words.proofs.Bits.{subset_from_bits}

-- a bit of the value is that of x if known, else 0
pub known_bit : (t : Bits) (x : ℕ) → InTnum t x → (i : ℕ) → i < 64 → bit_at t.value i ≡ min (bit_at x i) (1 - bit_at t.mask i)
known_bit t x h i within =
    ap (λ n. bit_at n i) (sym h.known) ∙ bit_at_and x (word_not t.mask) i
    ∙ ap (min (bit_at x i)) (bit_at_not w64 t.mask i h.mask_is_word within)

pub contains_from_bits : (t : Bits) (x : ℕ) → t.mask < 2 ^ 64 → t.value < 2 ^ 64 → x < 2 ^ 64
    → ((i : ℕ) → i < 64 → bit_at t.value i ≡ min (bit_at x i) (1 - bit_at t.mask i)) → InTnum t x
contains_from_bits t x mask_fits value_fits fits h = record {
  mask_is_word = mask_fits;
  is_word = fits;
  known =
      same_from_bits_below 64 _ _ (omega (arith, and_le_l x (word_not t.mask))) value_fits
      (λ i l. bit_at_and x (word_not t.mask) i ∙ ap (min (bit_at x i)) (bit_at_not w64 t.mask i mask_fits l) ∙ sym (h i l));
}

pub value-lt : (t : Bits) (x : ℕ) → InTnum t x → t.value < 2 ^ 64
value-lt t x h = omega (arith, h.known, and_le_l x (word_not t.mask), h.is_word)

pub value_apart : (t : Bits) (x : ℕ) → InTnum t x → bit_and t.value t.mask ≡ 0
value_apart t x h =
    same_from_bits_below 64 _ _ (omega (arith, and_le_l t.value t.mask, value-lt t x h)) (omega arith)
    (λ i l. omega (arith, bit_at_and t.value t.mask i, known_bit t x h i l, bit_at-lt t.mask i, bit_at-zero i))

-- the greatest number in t
abbrev pub most : Bits → ℕ
most t = t.value + t.mask

pub most_is_or : (t : Bits) (x : ℕ) → InTnum t x → bit_or t.value t.mask ≡ most t
most_is_or t x h = or_disjoint t.value t.mask (value_apart t x h)

pub most-lt : (t : Bits) (x : ℕ) → InTnum t x → most t < 2 ^ 64
most-lt t x h = omega (arith, most_is_or t x h, or_lt 64 t.value t.mask (value-lt t x h) h.mask_is_word)

pub bit_at_most : (t : Bits) (x : ℕ) → InTnum t x → (i : ℕ) → bit_at (most t) i ≡ max (bit_at t.value i) (bit_at t.mask i)
bit_at_most t x h i = ap (λ n. bit_at n i) (sym (most_is_or t x h)) ∙ bit_at_or t.value t.mask i

-- the value's bits are bits of x, whose bits are bits of the greatest number
pub value_within : (t : Bits) (x : ℕ) → InTnum t x → bit_and t.value x ≡ t.value
value_within t x h = subset_from_bits t.value x (value-lt t x h) (λ i l. omega (arith, known_bit t x h i l))

pub within_most : (t : Bits) (x : ℕ) → InTnum t x → bit_and x (most t) ≡ x
within_most t x h =
    subset_from_bits x (most t) h.is_word
    (λ i l. omega (arith, bit_at_most t x h i, known_bit t x h i l, bit_at-lt x i, bit_at-lt t.mask i))

pub contains_value : (t : Bits) (x : ℕ) → InTnum t x → InTnum t t.value
contains_value t x h =
    contains_from_bits t t.value h.mask_is_word (value-lt t x h) (value-lt t x h) (λ i l. omega (arith, known_bit t x h i l))
