-- Known low zeros, and truncation.
use Rattle.std.proofs.Common.{ℕ, suc, ◌≡◌, ◌+◌, ◌-◌, ◌*◌, ◌/◌, ◌%◌, ◌^◌, ◌<◌, ◌≤◌, min, refl, sym, ap, subst, ◌∙◌, arith, bit_and, bit_or, ⊎_elim}
use Rattle.std.specs.Int.{bit_at, w64}
use Rattle.std.proofs.lemmas.Nat.{and_mask, and_le_r, pow_pos, shr_le, trailing_le}
use Rattle.std.proofs.lemmas.Nat.Bits.{bit_at_and, bit_at-trailing_zeros}
use Rattle.std.proofs.lemmas.Bool.{cases_lt}
use Rattle.std.proofs.lemmas.Bool.Decides.{leb_tells}
use Rattle.std.proofs.Math.Nat.{mod-le}
use Rattle.std.proofs.Math.Pow.{pow_mono}
use Rattle.bpf_words.specs.Word.{word_not}
use Rattle.bpf_tnum.specs.Tnum.{Bits, InTnum, tnum_full, tnum_single, tnum_low, tnum_zeros, tnum_mul, tnum_shl, tnum_shr, tnum_cut}
use Rattle.bpf_words.proofs.Bits.{low_bits_zero}
use Rattle.bpf_words.proofs.Table.{A, B, C, both, without, by_table}
use Rattle.bpf_words.proofs.Multiple.{IsMultiple, mul_multiple, less_multiple, word_multiple, power_multiple, shr_multiple}
use Rattle.bpf_tnum.proofs.Contains.{most, most_is_or, most-lt, within_most}

pub low_contains : (t x : ℕ) → t ≤ 64 → x < 2 ^ 64 → IsMultiple t x → InTnum (tnum_low t) x
unfolding tnum_low
low_contains t x within fits h =
    let big : 2 ^ t ≤ 2 ^ 64 = pow_mono within in
    let some : 0 < 2 ^ t = pow_pos t in
    let rest : word_not (2 ^ 64 - 2 ^ t) ≡ 2 ^ t - 1 = omega arith in
    record {
      mask_is_word = omega arith;
      is_word = fits;
      known = ap (bit_and x) rest ∙ and_mask x t ∙ h;
    }

pub full_contains : (x : ℕ) → x < 2 ^ 64 → InTnum tnum_full x
full_contains x fits = record {
  mask_is_word = omega arith;
  is_word = fits;
  known = and_mask x 0 ∙ omega arith;
}

pub single_contains : (x : ℕ) → x < 2 ^ 64 → InTnum (tnum_single x) x
single_contains x fits = record {
  mask_is_word = omega arith;
  is_word = fits;
  known = and_mask x 64 ∙ omega arith;
}

pub zeros_divide : (a : Bits) (x : ℕ) → InTnum a x → IsMultiple (tnum_zeros a) x
zeros_divide a x h =
    let n = bit_or a.value a.mask in
    let t = tnum_zeros a in
    let is_most : n ≡ most a = most_is_or a x h in
    ⊎_elim
    (λ some.
    let zeros = bit_at-trailing_zeros w64 n some (omega (arith, is_most, most-lt a x h)) in
    low_bits_zero x t (λ i l. omega (arith, zeros.2 i l, ap (λ m. bit_at m i) is_most, ap (λ m. bit_at m i) (within_most a x h), bit_at_and x (most a) i)))
    (λ nothing. omega (arith, mod-le x (2 ^ t), is_most, within_most a x h, and_le_r x (most a)))
    (cases_lt 0 n)

-- products, and shifts, which are products with a power of 2
product_contains : (s t x y : ℕ) → IsMultiple s x → IsMultiple t y → InTnum (tnum_low (min (s + t) 64)) ((x * y) % 2 ^ 64)
product_contains s t x y h k =
    low_contains (min (s + t) 64) ((x * y) % 2 ^ 64) (omega arith) (omega arith)
    (word_multiple (min (s + t) 64) (x * y) (omega arith)
    (less_multiple (min (s + t) 64) (s + t) (x * y) (omega arith) (mul_multiple s t x y h k)))

pub mul_contains : (a b : Bits) (x y : ℕ) → InTnum a x → InTnum b y → InTnum (tnum_mul a b) ((x * y) % 2 ^ 64)
unfolding tnum_mul
mul_contains a b x y h k = product_contains (tnum_zeros a) (tnum_zeros b) x y (zeros_divide a x h) (zeros_divide b y k)

pub shl_contains : (a : Bits) (c x : ℕ) → InTnum a x → InTnum (tnum_shl a c) ((x * 2 ^ c) % 2 ^ 64)
unfolding tnum_shl
shl_contains a c x h = product_contains (tnum_zeros a) c x (2 ^ c) (zeros_divide a x h) (power_multiple c)

pub shr_contains : (a : Bits) (c x : ℕ) → InTnum a x → InTnum (tnum_shr a c) (x / 2 ^ c)
unfolding tnum_shr
shr_contains a c x h =
    let fits : x / 2 ^ c < 2 ^ 64 = omega (arith, shr_le x c, h.is_word) in
    let t = tnum_zeros a in
    ⊎_elim
    (λ p. rw p.0
    (let e : t ≡ (t - c) + c = omega (arith, p.1) in
    low_contains (t - c) (x / 2 ^ c) (omega (arith, trailing_le 64 (bit_or a.value a.mask))) fits
    (shr_multiple (t - c) c x (subst (λ n. IsMultiple n x) e (zeros_divide a x h)))))
    (λ p. rw p.0 (full_contains (x / 2 ^ c) fits))
    (leb_tells (suc c) t)

pub cut_contains : (a : Bits) (w x : ℕ) → w ≤ 64 → InTnum a x → InTnum (tnum_cut w a) (x % 2 ^ w)
unfolding tnum_cut
cut_contains a w x within h =
    let big : 2 ^ w ≤ 2 ^ 64 = pow_mono within in
    let ones = 2 ^ w - 1 in
    let table = by_table (both (both A C) (without (both B C))) (both (both A (without B)) C) refl x a.mask ones 0 h.is_word h.mask_is_word (omega arith) (omega arith) in
    record {
      mask_is_word = omega (arith, mod-le a.mask (2 ^ w), h.mask_is_word);
      is_word = omega (arith, mod-le x (2 ^ w), h.is_word);
      known = sym (λ i. bit_and (and_mask x w i) (word_not (and_mask a.mask w i))) ∙ table ∙ ap (λ n. bit_and n ones) h.known ∙ and_mask a.value w;
    }
