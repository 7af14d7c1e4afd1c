-- The operations contain every result.
use Rattle.std.proofs.Common.{ℕ, ◌≡◌, ◌+◌, ◌%◌, ◌^◌, ◌<◌, min, refl, sym, ap, ◌∙◌, arith, bit_and, bit_or, ⊎_elim, add-zero, true}
use Rattle.std.specs.Int.{bit_at, w64}
use Rattle.std.specs.Int.Bits.{bit_xor}
use Rattle.std.proofs.lemmas.Nat.{and_le_l, or_lt, xor_lt}
use Rattle.std.proofs.lemmas.Nat.Bits.{bit_at-lt, bit_at_and, bit_at_or, bit_at_xor, bit_at_not}
use Rattle.bpf_words.specs.Word.{word_add, word_sub, word_not}
use Rattle.bpf_tnum.specs.Tnum.{Bits, InTnum, tnum_of, tnum_add, tnum_sub, tnum_and, tnum_or, tnum_xor}
use Rattle.bpf_words.proofs.Bits.{bit_cases, bit_at_word, subset-low, not-subset}
use Rattle.bpf_words.proofs.Table.{BitTerm, A, B, C, D, none, both, either, differing, without, word, word-lt, table_given, by_table}
use Rattle.bpf_words.proofs.Carry.{bit_at-between}
use Rattle.bpf_tnum.proofs.Contains.{known_bit, contains_from_bits, contains_value, value-lt, most, most-lt, bit_at_most, value_within, within_most}

-- A result r is contained if it agrees with s at each bit that the mask leaves known.
pub cleared_contains : (s mu r : ℕ) → s < 2 ^ 64 → mu < 2 ^ 64 → r < 2 ^ 64
    → ((i : ℕ) → i < 64 → bit_at mu i ≡ 0 → bit_at r i ≡ bit_at s i)
    → InTnum (tnum_of (bit_and s (word_not mu)) mu) r
cleared_contains s mu r s_fits mu_fits r_fits h =
    contains_from_bits (tnum_of (bit_and s (word_not mu)) mu) r mu_fits (omega (arith, and_le_l s (word_not mu))) r_fits
    (λ i l.
    bit_at_and s (word_not mu) i ∙ ap (min (bit_at s i)) (bit_at_not w64 mu i mu_fits l)
    ∙ ⊎_elim (λ z. omega (arith, h i l z, z)) (λ o. omega (arith, o)) (bit_cases (bit_at mu i) (bit_at-lt mu i)))

pub or_zero : (chi p q i : ℕ) → bit_at (bit_or (bit_or chi p) q) i ≡ 0 → (bit_at chi i ≡ 0) × (bit_at p i ≡ 0) × (bit_at q i ≡ 0)
or_zero chi p q i h =
    let outer = bit_at_or (bit_or chi p) q i in
    let inner = bit_at_or chi p i in
    (omega arith, omega arith, omega arith)

pub xor_zero : (p q i : ℕ) → bit_at (bit_xor p q) i ≡ 0 → bit_at p i ≡ bit_at q i
xor_zero p q i h = omega (arith, bit_at_xor p q i, bit_at-lt p i, bit_at-lt q i)

no_carry : (n i : ℕ) → bit_at (n + 0) i ≡ bit_at n i
no_carry n i = ap (λ m. bit_at m i) (add-zero n)

-- at a known bit, the least and the greatest number agree with x
value_bit : (t : Bits) (x : ℕ) → InTnum t x → (i : ℕ) → i < 64 → bit_at t.mask i ≡ 0 → bit_at t.value i ≡ bit_at x i
value_bit t x h i l z = omega (arith, known_bit t x h i l, bit_at-lt x i, z)

most_bit : (t : Bits) (x : ℕ) → InTnum t x → (i : ℕ) → i < 64 → bit_at t.mask i ≡ 0 → bit_at (most t) i ≡ bit_at x i
most_bit t x h i l z = omega (arith, value_bit t x h i l z, bit_at_most t x h i, z)

add_bit : (a b : Bits) (x y : ℕ) → InTnum a x → InTnum b y → (i : ℕ) → i < 64
    → bit_at a.mask i ≡ 0 → bit_at b.mask i ≡ 0
    → bit_at (most a + most b) i ≡ bit_at (a.value + b.value) i
    → bit_at (x + y) i ≡ bit_at (a.value + b.value) i
add_bit a b x y h k i l az bz same =
    sym (no_carry (x + y) i)
    ∙ bit_at-between x y a.value b.value (most a) (most b) 0 i (omega arith)
    (subset-low a.value x i (value_within a x h)) (subset-low x (most a) i (within_most a x h))
    (subset-low b.value y i (value_within b y k)) (subset-low y (most b) i (within_most b y k))
    (value_bit a x h i l az) (most_bit a x h i l az) (value_bit b y k i l bz) (most_bit b y k i l bz)
    (no_carry (a.value + b.value) i ∙ sym same ∙ sym (no_carry (most a + most b) i))
    ∙ no_carry (a.value + b.value) i

most_sum : (a b : Bits) → word_add (word_add a.mask b.mask) (word_add a.value b.value) ≡ (most a + most b) % 2 ^ 64
most_sum a b = omega arith

pub add_contains : (a b : Bits) (x y : ℕ) → InTnum a x → InTnum b y → InTnum (tnum_add a b) (word_add x y)
unfolding tnum_add
add_contains a b x y h k =
    let sum = word_add a.value b.value in
    let greatest = word_add (word_add a.mask b.mask) sum in
    let chi = bit_xor greatest sum in
    let mu = bit_or (bit_or chi a.mask) b.mask in
    let chi_fits : chi < 2 ^ 64 = xor_lt 64 greatest sum (omega arith) (omega arith) in
    let mu_fits : mu < 2 ^ 64 = or_lt 64 (bit_or chi a.mask) b.mask (or_lt 64 chi a.mask chi_fits h.mask_is_word) k.mask_is_word in
    cleared_contains sum mu (word_add x y) (omega arith) mu_fits (omega arith)
    (λ i l z.
    let parts = or_zero chi a.mask b.mask i z in
    let same = xor_zero greatest sum i parts.0 in
    bit_at_word (x + y) i l
    ∙ add_bit a b x y h k i l parts.1 parts.2
    (sym (bit_at_word (most a + most b) i l) ∙ ap (λ n. bit_at n i) (sym (most_sum a b)) ∙ same ∙ bit_at_word (a.value + b.value) i l)
    ∙ sym (bit_at_word (a.value + b.value) i l))

sub_bit : (a b : Bits) (x y : ℕ) → InTnum a x → InTnum b y → (i : ℕ) → i < 64
    → bit_at a.mask i ≡ 0 → bit_at b.mask i ≡ 0
    → bit_at (most a + word_not b.value + 1) i ≡ bit_at (a.value + word_not (most b) + 1) i
    → bit_at (x + word_not y + 1) i ≡ bit_at (a.value + word_not (most b) + 1) i
sub_bit a b x y h k i l az bz same =
    let least_fits = value-lt b y k in
    let most_fits = most-lt b y k in
    bit_at-between x (word_not y) a.value (word_not (most b)) (most a) (word_not b.value) 1 i (omega arith)
    (subset-low a.value x i (value_within a x h)) (subset-low x (most a) i (within_most a x h))
    (subset-low (word_not (most b)) (word_not y) i (not-subset y (most b) k.is_word most_fits (within_most b y k)))
    (subset-low (word_not y) (word_not b.value) i (not-subset b.value y least_fits k.is_word (value_within b y k)))
    (value_bit a x h i l az) (most_bit a x h i l az)
    (omega (arith, bit_at_not w64 (most b) i most_fits l, bit_at_not w64 y i k.is_word l, most_bit b y k i l bz))
    (omega (arith, bit_at_not w64 b.value i least_fits l, bit_at_not w64 y i k.is_word l, value_bit b y k i l bz))
    (sym same)

-- subtraction adds the complement, and 1
word_sub_is : (x y : ℕ) → y < 2 ^ 64 → word_sub x y ≡ (x + word_not y + 1) % 2 ^ 64
word_sub_is x y h = omega arith

difference_bit : (x y i : ℕ) → y < 2 ^ 64 → i < 64 → bit_at (word_sub x y) i ≡ bit_at (x + word_not y + 1) i
difference_bit x y i h l = ap (λ n. bit_at n i) (word_sub_is x y h) ∙ bit_at_word (x + word_not y + 1) i l

greatest_difference : (a b : Bits) → b.value < 2 ^ 64 → word_add (word_sub a.value b.value) a.mask ≡ (most a + word_not b.value + 1) % 2 ^ 64
greatest_difference a b h = omega arith

least_difference : (a b : Bits) → b.mask < 2 ^ 64 → most b < 2 ^ 64 → word_sub (word_sub a.value b.value) b.mask ≡ (a.value + word_not (most b) + 1) % 2 ^ 64
least_difference a b h k = omega arith

pub sub_contains : (a b : Bits) (x y : ℕ) → InTnum a x → InTnum b y → InTnum (tnum_sub a b) (word_sub x y)
unfolding tnum_sub
sub_contains a b x y h k =
    let difference = word_sub a.value b.value in
    let greatest = word_add difference a.mask in
    let least = word_sub difference b.mask in
    let chi = bit_xor greatest least in
    let mu = bit_or (bit_or chi a.mask) b.mask in
    let chi_fits : chi < 2 ^ 64 = xor_lt 64 greatest least (omega arith) (omega arith) in
    let mu_fits : mu < 2 ^ 64 = or_lt 64 (bit_or chi a.mask) b.mask (or_lt 64 chi a.mask chi_fits h.mask_is_word) k.mask_is_word in
    let ga = contains_value a x h in
    let gb = contains_value b y k in
    cleared_contains difference mu (word_sub x y) (omega arith) mu_fits (omega arith)
    (λ i l z.
    let parts = or_zero chi a.mask b.mask i z in
    let same = xor_zero greatest least i parts.0 in
    let ends =
    sym (ap (λ n. bit_at n i) (greatest_difference a b (value-lt b y k)) ∙ bit_at_word (most a + word_not b.value + 1) i l)
    ∙ same
    ∙ ap (λ n. bit_at n i) (least_difference a b k.mask_is_word (most-lt b y k)) ∙ bit_at_word (a.value + word_not (most b) + 1) i l in
    difference_bit x y i k.is_word l
    ∙ sub_bit a b x y h k i l parts.1 parts.2 ends
    ∙ sym (sub_bit a b a.value b.value ga gb i l parts.1 parts.2 ends)
    ∙ sym (difference_bit a.value b.value i (value-lt b y k) l))

-- ---- the bitwise operations

-- Their formulas are equations between bitwise terms over x, y and the masks, if a value is written as x without the
-- mask.
pub contains_by_table : (v m r : BitTerm) → table_given none none (both r (without m)) v ≡ true
    → (a b : Bits) (x y : ℕ) → InTnum a x → InTnum b y
    → InTnum (tnum_of (word x y a.mask b.mask v) (word x y a.mask b.mask m)) (word x y a.mask b.mask r)
contains_by_table v m r table a b x y h k = record {
  mask_is_word = word-lt x y a.mask b.mask h.is_word k.is_word h.mask_is_word k.mask_is_word m;
  is_word = word-lt x y a.mask b.mask h.is_word k.is_word h.mask_is_word k.mask_is_word r;
  known = by_table (both r (without m)) v table x y a.mask b.mask h.is_word k.is_word h.mask_is_word k.mask_is_word;
}

pub and_contains : (a b : Bits) (x y : ℕ) → InTnum a x → InTnum b y → InTnum (tnum_and a b) (bit_and x y)
unfolding tnum_and
and_contains a b x y h k =
    let v = both (both A (without C)) (both B (without D)) in
    let could = both (either (both A (without C)) C) (either (both B (without D)) D) in
    rw (← h.known, ← k.known) (contains_by_table v (both could (without v)) (both A B) refl a b x y h k)

pub or_contains : (a b : Bits) (x y : ℕ) → InTnum a x → InTnum b y → InTnum (tnum_or a b) (bit_or x y)
unfolding tnum_or
or_contains a b x y h k =
    let v = either (both A (without C)) (both B (without D)) in
    rw (← h.known, ← k.known) (contains_by_table v (both (either C D) (without v)) (either A B) refl a b x y h k)

pub xor_contains : (a b : Bits) (x y : ℕ) → InTnum a x → InTnum b y → InTnum (tnum_xor a b) (bit_xor x y)
unfolding tnum_xor
xor_contains a b x y h k =
    let v = both (differing (both A (without C)) (both B (without D))) (without (either C D)) in
    rw (← h.known, ← k.known) (contains_by_table v (either C D) (differing A B) refl a b x y h k)
