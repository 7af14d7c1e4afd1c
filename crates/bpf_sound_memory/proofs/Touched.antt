-- Which bytes an access touches, as bits of two slots.
use Rattle.std.proofs.Common.{ℕ, ◌≡◌, ◌+◌, ◌-◌, ◌*◌, ◌/◌, ◌%◌, ◌^◌, ◌<◌, ◌≤◌, ◌⊎◌, inl, inr, ⊎_elim, true, false, sym, ap, ◌∙◌, arith, bit_and, bit_or}
use Rattle.std.specs.Int.{bit_at}
use Rattle.std.proofs.lemmas.Bool.{cases_lt, eqb-true, eqb-false}
use Rattle.std.proofs.lemmas.Nat.{shr_split, pow_pos}
use Rattle.std.proofs.lemmas.Nat.Bits.{bit_at_cat_low, bit_at_cat_high, bit_at_ones, bit_at_ones_above, bit_at_and, bit_at_or, bit_at-lt, bit_at-zero}
use Rattle.std.proofs.Math.Pow.{pow_mono, shl_lt}
use Rattle.bpf_rules.specs.Memory.{touched}
use Rattle.std.specs.Prelude.{◌==◌}

bit_of_low : (n i : ℕ) → i < 8 → bit_at (n % 256) i ≡ bit_at n i
bit_of_low n i within = sym (bit_at_cat_low (n / 2 ^ 8) 8 (n % 2 ^ 8) i within) ∙ ap (λ x. bit_at x i) (shr_split n 8)

bit_of_high : (n i : ℕ) → bit_at (n / 256) i ≡ bit_at n (8 + i)
bit_of_high n i =
    let e : 8 + i - 8 ≡ i = omega arith in
    sym (ap (bit_at (n / 2 ^ 8)) e) ∙ sym (bit_at_cat_high (n / 2 ^ 8) 8 (n % 2 ^ 8) (8 + i) (omega arith) (omega arith)) ∙ ap (λ x. bit_at x (8 + i)) (shr_split n 8)

-- the bits of a run of ones
run_high : (n r i : ℕ) → r ≤ i → bit_at ((2 ^ n - 1) * 2 ^ r) i ≡ bit_at (2 ^ n - 1) (i - r)
run_high n r i low =
    let e : (2 ^ n - 1) * 2 ^ r + 0 ≡ (2 ^ n - 1) * 2 ^ r = omega arith in
    sym (ap (λ x. bit_at x i) e) ∙ bit_at_cat_high (2 ^ n - 1) r 0 i (pow_pos r) low

run_low : (n r i : ℕ) → i < r → bit_at ((2 ^ n - 1) * 2 ^ r) i ≡ 0
run_low n r i low =
    let e : (2 ^ n - 1) * 2 ^ r + 0 ≡ (2 ^ n - 1) * 2 ^ r = omega arith in
    sym (ap (λ x. bit_at x i) e) ∙ bit_at_cat_low (2 ^ n - 1) r 0 i low ∙ bit_at-zero i

in_run : (n r i : ℕ) → r ≤ i → i < r + n → bit_at ((2 ^ n - 1) * 2 ^ r) i ≡ 1
in_run n r i low high = run_high n r i low ∙ bit_at_ones n (i - r) (omega arith)

run_within : (n r i : ℕ) → bit_at ((2 ^ n - 1) * 2 ^ r) i ≡ 1 → (r ≤ i) × (i < r + n)
run_within n r i h =
    ⊎_elim
    (λ low. absurd (omega (arith, h, run_low n r i low)))
    (λ low. ⊎_elim (λ high. (low, high)) (λ high. absurd (omega (arith, h, run_high n r i low, bit_at_ones_above n (i - r) (omega (arith, high))))) (cases_lt i (r + n)))
    (cases_lt i r)

pub first_touched : (at n j : ℕ) → j < 8 → at % 8 ≤ j → j < at % 8 + n → bit_at (touched at n % 256) j ≡ 1
first_touched at n j few low high = bit_of_low (touched at n) j few ∙ in_run n (at % 8) j low high

pub first_within : (at n j : ℕ) → j < 8 → bit_at (touched at n % 256) j ≡ 1 → (at % 8 ≤ j) × (j < at % 8 + n)
first_within at n j few h = run_within n (at % 8) j (sym (bit_of_low (touched at n) j few) ∙ h)

pub second_touched : (at n j : ℕ) → at % 8 ≤ 8 + j → 8 + j < at % 8 + n → bit_at (touched at n / 256) j ≡ 1
second_touched at n j low high = bit_of_high (touched at n) j ∙ in_run n (at % 8) (8 + j) low high

pub second_within : (at n j : ℕ) → bit_at (touched at n / 256) j ≡ 1 → (at % 8 ≤ 8 + j) × (8 + j < at % 8 + n)
second_within at n j h = run_within n (at % 8) (8 + j) (sym (bit_of_high (touched at n) j) ∙ h)

-- the next slot isn't touched if all bytes are in the first
pub one_slot : (at n : ℕ) → (touched at n / 256 == 0) ≡ true → at % 8 + n ≤ 8
one_slot at n h =
    ⊎_elim
    (λ over. absurd (omega (arith, second_touched at n 0 (omega arith) (omega (arith, over)), ap (λ x. bit_at x 0) (eqb-true (touched at n / 256) 0 h), bit_at-zero 0)))
    (λ within. within)
    (cases_lt 8 (at % 8 + n))

pub two_slots : (at n : ℕ) → (touched at n / 256 == 0) ≡ false → 8 < at % 8 + n
two_slots at n h =
    ⊎_elim
    (λ over. over)
    (λ within. absurd (eqb-false (touched at n / 256) 0 h (nothing_behind within)))
    (cases_lt 8 (at % 8 + n))
  where
    nothing_behind : at % 8 + n ≤ 8 → touched at n / 256 ≡ 0
    nothing_behind within =
        let few : n + at % 8 ≤ 8 = omega arith in
        let room : 2 ^ (n + at % 8) ≤ 2 ^ 8 = pow_mono few in
        let some : 0 < 2 ^ (at % 8) = pow_pos (at % 8) in
        let run : (2 ^ n - 1) * 2 ^ (at % 8) < 2 ^ (n + at % 8) = shl_lt n (at % 8) (omega (arith, pow_pos n)) in
        omega arith

-- ---- bits of masks

-- all needed bytes are known to be set
pub has_needed : (known needed j : ℕ) → bit_and known needed ≡ needed → bit_at needed j ≡ 1 → bit_at known j ≡ 1
has_needed known needed j h one = omega (arith, bit_at_and known needed j, ap (λ n. bit_at n j) h, bit_at-lt known j)

pub either_has : (a b j : ℕ) → bit_at (bit_or a b) j ≡ 1 → (bit_at a j ≡ 1) ⊎ (bit_at b j ≡ 1)
either_has a b j h =
    ⊎_elim
    (λ none. inr (omega (arith, bit_at_or a b j, bit_at-lt b j)))
    (λ some. inl (omega (arith, bit_at-lt a j)))
    (cases_lt (bit_at a j) 1)
