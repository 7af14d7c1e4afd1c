-- Powers of two that add up to as many ones.
use Rattle.std.proofs.Common.{◌≡◌, ◌<◌, ◌≤◌, ◌+◌, ◌*◌, ◌^◌, ℕ, zero, suc, List, [], ◌∷◌, length, refl, ap, sym, subst, ◌∙◌, arith}
use Rattle.std.specs.Prelude.{◌==◌, ◌/◌, Bool, true, false}
use Rattle.std.proofs.Math.Nat.{pow-succ'}
use Rattle.std.proofs.lemmas.Bool.Decides.{nat_tests}

-- the powers of these exponents, added up
abbrev pub weight : List ℕ → ℕ
weight [] = 0
weight (k ∷ ks) = 2 ^ k + weight ks

-- one if it holds
abbrev pub one_if : Bool → ℕ
one_if true = 1
one_if false = 0

-- how many of them are j
abbrev pub times : ℕ → List ℕ → ℕ
times j [] = 0
times j (k ∷ ks) = one_if (j == k) + times j ks

-- those above 0, each less 1
abbrev pub lower : List ℕ → List ℕ
lower [] = []
lower (zero ∷ ks) = lower ks
lower (suc k ∷ ks) = k ∷ lower ks

-- this many zeros before the list
abbrev pub zeros : ℕ → List ℕ → List ℕ
zeros zero ks = ks
zeros (suc n) ks = 0 ∷ zeros n ks

-- 1 where k is below n
abbrev pub below : ℕ → ℕ → ℕ
below k zero = 0
below zero (suc n) = 1
below (suc k) (suc n) = below k n

twice : (k : ℕ) → 2 ^ suc k ≡ 2 * 2 ^ k
twice k = pow-succ' 2 k

positive : (k : ℕ) → 0 < 2 ^ k
positive zero = omega arith
positive (suc k) = omega (arith, twice k, positive k)

same_suc : (j k : ℕ) (b c : Bool) → (suc j == suc k) ≡ b → (j == k) ≡ c → b ≡ c
same_suc j k true true p q = refl
same_suc j k false false p q = refl
same_suc j k true false p q = grind (arith, nat_tests)
same_suc j k false true p q = grind (arith, nat_tests)

not_zero : (k : ℕ) (b : Bool) → (0 == suc k) ≡ b → b ≡ false
not_zero k true p = grind (arith, nat_tests)
not_zero k false p = refl

zero_not : (k : ℕ) (b : Bool) → (suc k == 0) ≡ b → b ≡ false
zero_not k true p = grind (arith, nat_tests)
zero_not k false p = refl

lowered : (ks : List ℕ) → weight ks ≡ times 0 ks + 2 * weight (lower ks)
lowered [] = refl
lowered (zero ∷ ks) = omega (arith, lowered ks)
lowered (suc k ∷ ks) = omega (arith, lowered ks, twice k, ap one_if (not_zero k (0 == suc k) refl))

shorter : (ks : List ℕ) → length ks ≡ times 0 ks + length (lower ks)
shorter [] = refl
shorter (zero ∷ ks) = omega (arith, shorter ks)
shorter (suc k ∷ ks) = omega (arith, shorter ks, ap one_if (not_zero k (0 == suc k) refl))

times_lower : (j : ℕ) (ks : List ℕ) → times (suc j) ks ≡ times j (lower ks)
times_lower j [] = refl
times_lower j (zero ∷ ks) = omega (arith, times_lower j ks, ap one_if (zero_not j (suc j == 0) refl))
times_lower j (suc k ∷ ks) = omega (arith, times_lower j ks, ap one_if (same_suc j k (suc j == suc k) (j == k) refl refl))

weight_zeros : (n : ℕ) (ks : List ℕ) → weight (zeros n ks) ≡ n + weight ks
weight_zeros zero ks = omega arith
weight_zeros (suc n) ks = omega (arith, weight_zeros n ks)

length_zeros : (n : ℕ) (ks : List ℕ) → length (zeros n ks) ≡ n + length ks
length_zeros zero ks = omega arith
length_zeros (suc n) ks = omega (arith, length_zeros n ks)

none_weighs : (ks : List ℕ) → weight ks ≡ 0 → ks ≡ []
none_weighs [] is = refl
none_weighs (k ∷ ks) is = absurd (omega (arith, positive k, is))

-- n numbers at most, whose powers add up to n ones, are those below n, each once
pub record Are (n : ℕ) (ks : List ℕ) : Type 0 where
  pub all : length ks ≡ n
  pub once : (j : ℕ) → times j ks ≡ below j n

below_none : (j : ℕ) → 0 ≡ below j 0
below_none j = refl

-- an odd number
odd_half : (z w : ℕ) → (x : ℕ) → z + 2 * w + 1 ≡ 2 * x → (h : ℕ) × (z ≡ 2 * h + 1)
odd_half z w x is = (z / 2, omega (arith, is))

pub are_below : (n : ℕ) (ks : List ℕ) → length ks ≤ n → weight ks + 1 ≡ 2 ^ n → Are n ks
are_below zero ks few is =
    let none = none_weighs ks (omega (arith, is)) in
    subst (Are 0) (sym none) (record { all = refl; once = λ j. refl })
are_below (suc n) ks few is =
    let odd = odd_half (times 0 ks) (weight (lower ks)) (2 ^ n) (omega (arith, is, lowered ks, twice n)) in
    let w = weight_zeros odd.0 (lower ks) in
    let l = length_zeros odd.0 (lower ks) in
    let rest = are_below n (zeros odd.0 (lower ks)) (omega (arith, few, shorter ks, odd.1, l)) (omega (arith, is, lowered ks, twice n, odd.1, w)) in
    let none : odd.0 ≡ 0 = omega (arith, few, shorter ks, odd.1, l, rest.all) in
    let same : zeros odd.0 (lower ks) ≡ lower ks = ap (λ h. zeros h (lower ks)) none in
    record {
      all = omega (arith, shorter ks, odd.1, none, l, rest.all);
      once = once ks n (omega (arith, odd.1, none)) (λ j. ap (times j) (sym same) ∙ rest.once j);
    }
  where
    once : (ks : List ℕ) (n : ℕ) → times 0 ks ≡ 1 → ((j : ℕ) → times j (lower ks) ≡ below j n) → (j : ℕ) → times j ks ≡ below j (suc n)
    once ks n first others zero = first
    once ks n first others (suc j) = times_lower j ks ∙ others j
