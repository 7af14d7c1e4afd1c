-- Facts about the bits of numbers, in addition to those of std.
use Rattle.std.proofs.Common.{ℕ, zero, suc, ◌≡◌, ◌-◌, ◌/◌, ◌%◌, ◌^◌, ◌<◌, ◌≤◌, refl, sym, ap, ◌∙◌, inl, inr, arith, ⊎_elim, ◌⊎◌, bit_and}
use Rattle.std.specs.Int.{bit_at, w64}
use Rattle.bpf_words.specs.Word.{word_not}
use Rattle.std.proofs.Math.Nat.{mod-lt}
use Rattle.std.specs.Int.Bits.{and_self, and_zero_r}
use Rattle.std.proofs.lemmas.Bool.{cases_lt}
use Rattle.std.proofs.lemmas.Nat.{and-not, and_assoc, and_comm, and_mask, and_mod, and_le_r, and_le_l, shr_split, pow_pos}
use Rattle.std.proofs.lemmas.Nat.Bits.{bit_at_and, bit_at_not, bit_at_cat_low, bit_at-zero, ones_shr, same_from_bits_below}

-- a bit is 0 or 1
pub bit_cases : (b : ℕ) → b < 2 → (b ≡ 0) ⊎ (b ≡ 1)
bit_cases zero h = inl refl
bit_cases (suc zero) h = inr refl
bit_cases (suc (suc b)) h = absurd (omega arith)

-- the low 64 bits
pub bit_at_word : (n i : ℕ) → i < 64 → bit_at (n % 2 ^ 64) i ≡ bit_at n i
bit_at_word n i within =
    sym (bit_at_cat_low (n / 2 ^ 64) 64 (n % 2 ^ 64) i within) ∙ ap (λ x. bit_at x i) (shr_split n 64)

-- each bit of a is a bit of b
abbrev pub IsSubset : ℕ → ℕ → Type 0
IsSubset a b = bit_and a b ≡ a

pub subset_from_bits : (a b : ℕ) → a < 2 ^ 64 → ((i : ℕ) → i < 64 → bit_at a i ≤ bit_at b i) → bit_and a b ≡ a
subset_from_bits a b fits h =
    same_from_bits_below 64 (bit_and a b) a (omega (arith, and_le_l a b)) fits (λ i l. omega (arith, bit_at_and a b i, h i l))

-- so a's low bits are at most b's
pub subset-low : (a b i : ℕ) → bit_and a b ≡ a → a % 2 ^ i ≤ b % 2 ^ i
subset-low a b i h =
    let low : bit_and (a % 2 ^ i) (b % 2 ^ i) ≡ a % 2 ^ i = sym (and_mod a b i) ∙ ap (λ x. x % 2 ^ i) h in
    omega (arith, and_le_r (a % 2 ^ i) (b % 2 ^ i))

-- complementing reverses inclusion
pub not-subset : (a b : ℕ) → a < 2 ^ 64 → b < 2 ^ 64 → bit_and a b ≡ a → bit_and (word_not b) (word_not a) ≡ word_not b
not-subset a b a_fits b_fits h =
    subset_from_bits (word_not b) (word_not a) (omega arith)
    (λ i l. omega (arith, bit_at_not w64 a i a_fits l, bit_at_not w64 b i b_fits l, ap (λ n. bit_at n i) h, bit_at_and a b i))

-- `n & (MAX >> (64 - w))` is the low w bits
pub and_ones_shr : (n w : ℕ) → w ≤ 64 → bit_and n ((2 ^ 64 - 1) / 2 ^ (64 - w)) ≡ n % 2 ^ w
and_ones_shr n w h =
    let e : 64 - (64 - w) ≡ w = omega arith in
    ap (bit_and n) (ones_shr 64 (64 - w) (omega arith) ∙ ap (λ k. 2 ^ k - 1) e) ∙ and_mask n w

-- n is a multiple of 2 ^ t if its low t bits are 0
pub low_bits_zero : (n t : ℕ) → ((i : ℕ) → i < t → bit_at n i ≡ 0) → n % 2 ^ t ≡ 0
low_bits_zero n t h =
    same_from_bits_below t (n % 2 ^ t) 0 (mod-lt n (pow_pos t)) (pow_pos t)
    (λ i l. sym (bit_at_cat_low (n / 2 ^ t) t (n % 2 ^ t) i l) ∙ ap (λ x. bit_at x i) (shr_split n t) ∙ h i l ∙ sym (bit_at-zero i))

-- a word and its complement share no bit; nor do a mask and a word that it cleared
pub not_apart : (m : ℕ) → bit_and (word_not m) m ≡ 0
not_apart m =
    ⊎_elim
    (λ fits. omega (arith, and-not 64 m m fits fits, and_self m))
    (λ more. let e : word_not m ≡ 0 = omega arith in ap (λ n. bit_and n m) e)
    (cases_lt m (2 ^ 64))

pub cleared_apart : (s m : ℕ) → bit_and (bit_and s (word_not m)) m ≡ 0
cleared_apart s m = and_assoc m s (word_not m) ∙ ap (bit_and s) (not_apart m) ∙ and_zero_r s

pub value_apart_rest : (v m : ℕ) → bit_and v (bit_and m (word_not v)) ≡ 0
value_apart_rest v m = and_comm v (bit_and m (word_not v)) ∙ cleared_apart m v

pub ruleset apart = (not_apart, cleared_apart, value_apart_rest)

pub apart_cut : (v m o : ℕ) → bit_and v m ≡ 0 → bit_and (bit_and v o) (bit_and m o) ≡ 0
apart_cut v m o h =
    and_assoc (bit_and m o) v o ∙ ap (bit_and v) (and_comm o (bit_and m o) ∙ and_assoc o m o ∙ ap (bit_and m) (and_self o))
    ∙ sym (and_assoc o v m) ∙ ap (λ n. bit_and n o) h
