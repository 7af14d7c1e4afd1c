-- Equations between bitwise terms over 64-bit words, decided by a table of their bits.
--
-- Write both sides as a `BitTerm` over up to four words. If the terms agree at all sixteen choices of bits, they are
-- equal at all words, and `by_table s t refl ..` proves it: `word s a b c d` computes to the term meant.
use Rattle.std.proofs.Common.{ℕ, zero, suc, ◌≡◌, ◌+◌, ◌-◌, ◌%◌, ◌^◌, ◌<◌, min, max, refl, sym, ap, ◌∙◌, arith, bit_and, bit_or, Bool, true, false, ◌&&◌, eqb, not, ◌||◌}
use Rattle.std.specs.Int.{bit_at, w64}
use Rattle.std.specs.Int.Bits.{bit_xor}
use Rattle.std.proofs.lemmas.Nat.{and_le_l, or_lt, xor_lt}
use Rattle.std.proofs.lemmas.Nat.Bits.{bit_at-lt, bit_at_and, bit_at_or, bit_at_xor, bit_at_not, bit_at-zero, same_from_bits_below}
use Rattle.std.proofs.lemmas.Bool.{and_parts}
use Rattle.std.proofs.lemmas.Bool.Decides.{Decides-eqb}
use Rattle.bpf_words.specs.Word.{word_not}

pub data BitTerm : Type 0 where
  A : BitTerm
  B : BitTerm
  C : BitTerm
  D : BitTerm
  none : BitTerm
  both : BitTerm → BitTerm → BitTerm
  either : BitTerm → BitTerm → BitTerm
  differing : BitTerm → BitTerm → BitTerm
  without : BitTerm → BitTerm

module _ (a b c d : ℕ) where
  abbrev pub word : BitTerm → ℕ
  word A = a
  word B = b
  word C = c
  word D = d
  word none = 0
  word (both s t) = bit_and (word s) (word t)
  word (either s t) = bit_or (word s) (word t)
  word (differing s t) = bit_xor (word s) (word t)
  word (without t) = word_not (word t)

  abbrev pub digit : BitTerm → ℕ
  digit A = a
  digit B = b
  digit C = c
  digit D = d
  digit none = 0
  digit (both s t) = min (digit s) (digit t)
  digit (either s t) = max (digit s) (digit t)
  digit (differing s t) = (digit s + digit t) % 2
  digit (without t) = 1 - digit t

module _ (a b c d : ℕ) (pa : a < 2 ^ 64) (pb : b < 2 ^ 64) (pc : c < 2 ^ 64) (pd : d < 2 ^ 64) where
  pub word-lt : (t : BitTerm) → word a b c d t < 2 ^ 64
  word-lt A = pa
  word-lt B = pb
  word-lt C = pc
  word-lt D = pd
  word-lt none = omega arith
  word-lt (both s t) = omega (arith, and_le_l (word a b c d s) (word a b c d t), word-lt s)
  word-lt (either s t) = or_lt 64 (word a b c d s) (word a b c d t) (word-lt s) (word-lt t)
  word-lt (differing s t) = xor_lt 64 (word a b c d s) (word a b c d t) (word-lt s) (word-lt t)
  word-lt (without t) = omega arith

  pub bit_at-word : (i : ℕ) → i < 64 → (t : BitTerm) → bit_at (word a b c d t) i ≡ digit (bit_at a i) (bit_at b i) (bit_at c i) (bit_at d i) t
  bit_at-word i l A = refl
  bit_at-word i l B = refl
  bit_at-word i l C = refl
  bit_at-word i l D = refl
  bit_at-word i l none = bit_at-zero i
  bit_at-word i l (both s t) = bit_at_and (word a b c d s) (word a b c d t) i ∙ (λ j. min (bit_at-word i l s j) (bit_at-word i l t j))
  bit_at-word i l (either s t) = bit_at_or (word a b c d s) (word a b c d t) i ∙ (λ j. max (bit_at-word i l s j) (bit_at-word i l t j))
  bit_at-word i l (differing s t) = bit_at_xor (word a b c d s) (word a b c d t) i ∙ (λ j. (bit_at-word i l s j + bit_at-word i l t j) % 2)
  bit_at-word i l (without t) = bit_at_not w64 (word a b c d t) i (word-lt t) l ∙ ap (λ n. 1 - n) (bit_at-word i l t)

-- f holds at both digits
abbrev each_digit : (ℕ → Bool) → Bool
each_digit f = f 0 && f 1

at_digit : (f : ℕ → Bool) → each_digit f ≡ true → (n : ℕ) → n < 2 → f n ≡ true
at_digit f h zero small = (and_parts (f 0) (f 1) h).0
at_digit f h (suc zero) small = (and_parts (f 0) (f 1) h).1
at_digit f h (suc (suc n)) small = absurd (omega arith)

holds_if : (x y : Bool) → (not x || y) ≡ true → x ≡ true → y ≡ true
holds_if true y h k = h
holds_if false y h k = absurd (cc)

-- s equals t if u equals v
module _ (u v s t : BitTerm) where
  abbrev at_digits : ℕ → ℕ → ℕ → ℕ → Bool
  at_digits a b c d = not (eqb (digit a b c d u) (digit a b c d v)) || eqb (digit a b c d s) (digit a b c d t)

  abbrev pub table_given : Bool
  table_given = each_digit (λ a. each_digit (λ b. each_digit (λ c. each_digit (λ d. at_digits a b c d))))

  digits_given : table_given ≡ true → (a b c d : ℕ) → a < 2 → b < 2 → c < 2 → d < 2 → digit a b c d u ≡ digit a b c d v → digit a b c d s ≡ digit a b c d t
  digits_given h a b c d pa pb pc pd e =
      let ha = at_digit (λ a. each_digit (λ b. each_digit (λ c. each_digit (λ d. at_digits a b c d)))) h a pa in
      let hb = at_digit (λ b. each_digit (λ c. each_digit (λ d. at_digits a b c d))) ha b pb in
      let hc = at_digit (λ c. each_digit (λ d. at_digits a b c d)) hb c pc in
      let hd = at_digit (λ d. at_digits a b c d) hc d pd in
      (Decides-eqb (digit a b c d s) (digit a b c d t)).0
      (holds_if (eqb (digit a b c d u) (digit a b c d v)) (eqb (digit a b c d s) (digit a b c d t)) hd
      ((Decides-eqb (digit a b c d u) (digit a b c d v)).1 e))

  pub by_table_given : table_given ≡ true → (a b c d : ℕ) → a < 2 ^ 64 → b < 2 ^ 64 → c < 2 ^ 64 → d < 2 ^ 64 → word a b c d u ≡ word a b c d v → word a b c d s ≡ word a b c d t
  by_table_given h a b c d pa pb pc pd e =
      same_from_bits_below 64 (word a b c d s) (word a b c d t) (word-lt a b c d pa pb pc pd s) (word-lt a b c d pa pb pc pd t)
      (λ i l.
      bit_at-word a b c d pa pb pc pd i l s
      ∙ digits_given h (bit_at a i) (bit_at b i) (bit_at c i) (bit_at d i) (bit_at-lt a i) (bit_at-lt b i) (bit_at-lt c i) (bit_at-lt d i)
      (sym (bit_at-word a b c d pa pb pc pd i l u) ∙ ap (λ n. bit_at n i) e ∙ bit_at-word a b c d pa pb pc pd i l v)
      ∙ sym (bit_at-word a b c d pa pb pc pd i l t))

pub by_table : (s t : BitTerm) → table_given none none s t ≡ true → (a b c d : ℕ) → a < 2 ^ 64 → b < 2 ^ 64 → c < 2 ^ 64 → d < 2 ^ 64 → word a b c d s ≡ word a b c d t
by_table s t h a b c d pa pb pc pd = by_table_given none none s t h a b c d pa pb pc pd refl
