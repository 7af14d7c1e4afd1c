-- The operations on intervals contain every result.
use Rattle.std.proofs.Common.{ℕ, ◌≡◌, ◌+◌, ◌-◌, ◌*◌, ◌/◌, ◌%◌, ◌^◌, ◌<◌, ◌≤◌, min, max, refl, sym, subst, arith, bit_and, bit_or, Some, None, Option}
use Rattle.std.specs.Prelude.{nat_lt, nat_le, nat_eq}
use Rattle.std.proofs.lemmas.Nat.{pow_pos, and_le_r, and_le_l, or_lt, le_or_l, le_or_r, mul-le, le-div}
use Rattle.std.proofs.lemmas.Bool.Decides.{Decides-eqb, nat_tests}
use Rattle.std.proofs.Math.Nat.{mod-lt, mod-le, mul-le-mul_right, div-mul-le_self, div-le_self}
use Rattle.std.proofs.lemmas.Bool.{cond_both, and_parts, ltb-true, ltb-false, leb-true, leb-false}
use Rattle.std.proofs.Math.Pow.{shr_mono, pow_mono}
use Rattle.bpf_words.specs.Word.{word_add, word_sub, quotient, remainder}
use Rattle.bpf_interval.specs.Interval.{Bounds, InBounds, bounds, bounds_full, bounds_add, bounds_sub, bounds_and, bounds_or, bounds_mul, bounds_div, bounds_rem, bounds_shl, bounds_shr, bounds_of_bits, after_greater, after_at_most}
use Rattle.bpf_interval.specs.Laws.{ContainsResults, CutContains, WidthContains, MeetKeeps, KeepsPairs, WithoutKeeps, IncludedKeeps}

pub full_contains : (x : ℕ) → x < 2 ^ 64 → InBounds bounds_full x
full_contains x h = record { above = omega arith; below = omega arith; fits = omega arith }

pub add_contains : ContainsResults bounds_add word_add
add_contains a b x y p q h k =
    cond_both (nat_lt (a.high + b.high) (2 ^ 64)) _ _ (λ r. InBounds r (word_add x y))
    (λ t. let fits : a.high + b.high < 2 ^ 64 = grind (arith, nat_tests) in record { above = omega (arith, h.above, k.above, h.below, k.below); below = omega (arith, h.below, k.below); fits = omega arith })
    (λ _. full_contains (word_add x y) (omega arith))

pub sub_contains : ContainsResults bounds_sub word_sub
sub_contains a b x y p q h k =
    cond_both (nat_le b.high a.low) _ _ (λ r. InBounds r (word_sub x y))
    (λ t. let apart : b.high ≤ a.low = grind (arith, nat_tests) in record { above = omega (arith, h.above, k.above, h.below, k.below); below = omega (arith, h.above, k.above, h.below, k.below); fits = omega arith })
    (λ _. full_contains (word_sub x y) (omega arith))

pub and_contains : ContainsResults bounds_and bit_and
and_contains a b x y p q h k = record { above = omega arith; below = omega (arith, and_le_l x y, and_le_r x y, h.below, k.below); fits = omega arith }

pub or_contains : ContainsResults bounds_or bit_or
or_contains a b x y p q h k = record { above = omega (arith, le_or_l x y, le_or_r x y, h.above, k.above); below = omega (arith, or_lt 64 x y p q); fits = omega arith }

pub mul_contains : ContainsResults bounds_mul (λ x y. (x * y) % 2 ^ 64)
mul_contains a b x y p q h k =
    cond_both (nat_lt (a.high * b.high) (2 ^ 64)) _ _ (λ r. InBounds r ((x * y) % 2 ^ 64))
    (λ t.
    let fits : a.high * b.high < 2 ^ 64 = grind (arith, nat_tests) in
    let most : x * y ≤ a.high * b.high = mul-le x y a.high b.high h.below k.below in
    let least : a.low * b.low ≤ x * y = mul-le a.low b.low x y h.above k.above in
    record { above = omega arith; below = omega arith; fits = omega arith })
    (λ _. full_contains ((x * y) % 2 ^ 64) (omega arith))

pub shr_contains : (a : Bounds) (c x : ℕ) → InBounds a x → InBounds (bounds_shr a c) (x / 2 ^ c)
shr_contains a c x h = record { above = shr_mono c h.above; below = shr_mono c h.below; fits = omega arith }

pub shl_contains : (a : Bounds) (c x : ℕ) → InBounds a x → InBounds (bounds_shl a c) ((x * 2 ^ c) % 2 ^ 64)
shl_contains a c x h =
    cond_both (nat_le a.high ((2 ^ 64 - 1) / 2 ^ c)) _ _ (λ r. InBounds r ((x * 2 ^ c) % 2 ^ 64))
    (λ t.
    let room = leb-true a.high ((2 ^ 64 - 1) / 2 ^ c) t in
    let fits : a.high * 2 ^ c ≤ 2 ^ 64 - 1 = omega (arith, mul-le-mul_right (2 ^ c) room, div-mul-le_self (2 ^ 64 - 1) (2 ^ c)) in
    let most : x * 2 ^ c ≤ a.high * 2 ^ c = mul-le-mul_right (2 ^ c) h.below in
    let least : a.low * 2 ^ c ≤ x * 2 ^ c = mul-le-mul_right (2 ^ c) h.above in
    record { above = omega arith; below = omega arith; fits = omega arith })
    (λ _. full_contains ((x * 2 ^ c) % 2 ^ 64) (omega arith))

pub div_contains : ContainsResults bounds_div quotient
div_contains a b x y p q h k =
    cond_both (nat_le 1 b.low) _ _ (λ r. InBounds r (quotient x y))
    (λ t.
    let some : 1 ≤ b.low = leb-true 1 b.low t in
    cond_both (nat_eq y 0) 0 (x / y) (λ n. InBounds (bounds (a.low / b.high) (a.high / b.low)) n)
    (λ e. absurd (omega (arith, (Decides-eqb y 0).0 e, k.above)))
    (λ _. record {
      above = le-div (a.low / b.high) x y (omega (arith, k.above)) (omega (arith, mul-le (a.low / b.high) y (a.low / b.high) b.high (omega arith) k.below, div-mul-le_self a.low b.high, h.above));
      below = le-div (x / y) a.high b.low some (omega (arith, mul-le (x / y) b.low (x / y) y (omega arith) k.above, div-mul-le_self x y, h.below));
      fits = omega arith;
    }))
    (λ _. cond_both (nat_eq y 0) 0 (x / y) (λ n. InBounds (bounds 0 a.high) n)
    (λ _. record { above = omega arith; below = omega arith; fits = omega arith })
    (λ _. record { above = omega arith; below = omega (arith, div-le_self x y, h.below); fits = omega arith }))

pub rem_contains : ContainsResults bounds_rem remainder
rem_contains a b x y p q h k =
    cond_both (nat_le 1 b.low) _ _ (λ r. InBounds r (remainder x y))
    (λ t.
    let some : 1 ≤ b.low = leb-true 1 b.low t in
    cond_both (nat_eq y 0) x (x % y) (λ n. InBounds (bounds 0 (min a.high (b.high - 1))) n)
    (λ e. absurd (omega (arith, (Decides-eqb y 0).0 e, k.above)))
    (λ _.
    let less : x % y < y = mod-lt x (omega (arith, k.above)) in
    record { above = omega arith; below = omega (arith, mod-le x y, h.below, k.below); fits = omega arith }))
    (λ _. cond_both (nat_eq y 0) x (x % y) (λ n. InBounds (bounds 0 a.high) n)
    (λ _. record { above = omega arith; below = h.below; fits = omega arith })
    (λ _. record { above = omega arith; below = omega (arith, mod-le x y, h.below); fits = omega arith }))

pub meet_contains : MeetKeeps
meet_contains a b x h k =
    cond_both (nat_le (max a.low b.low) (min a.high b.high)) (Some (bounds (max a.low b.low) (min a.high b.high))) None (λ r. (s : Bounds) × (r ≡ Some s) × InBounds s x)
    (λ _. (bounds (max a.low b.low) (min a.high b.high), refl, record { above = omega (arith, h.above, k.above); below = omega (arith, h.below, k.below); fits = omega arith }))
    (λ t. absurd (grind (arith, nat_tests, h.above, k.above, h.below, k.below)))

pub greater_keeps : KeepsPairs after_greater (λ x y. y < x)
greater_keeps a b x y h k more =
    let r : Bounds × Bounds = (bounds (max a.low (b.low + 1)) a.high, bounds b.low (min b.high (a.high - 1))) in
    cond_both (nat_lt b.low a.high) (Some r) None (λ o. (s : Bounds × Bounds) × (o ≡ Some s) × InBounds s.0 x × InBounds s.1 y)
    (λ _. (r, refl, record { above = omega (arith, h.above, k.above); below = h.below; fits = omega arith }, record { above = k.above; below = omega (arith, h.below, k.below); fits = omega arith }))
    (λ t. absurd (omega (arith, ltb-false b.low a.high t, h.below, k.above)))

pub at_most_keeps : KeepsPairs after_at_most (λ x y. x ≤ y)
at_most_keeps a b x y h k less =
    let r : Bounds × Bounds = (bounds a.low (min a.high b.high), bounds (max b.low a.low) b.high) in
    cond_both (nat_le a.low b.high) (Some r) None (λ o. (s : Bounds × Bounds) × (o ≡ Some s) × InBounds s.0 x × InBounds s.1 y)
    (λ _. (r, refl, record { above = h.above; below = omega (arith, h.below, k.below); fits = omega arith }, record { above = omega (arith, h.above, k.above); below = k.below; fits = omega arith }))
    (λ t. absurd (omega (arith, leb-false a.low b.high t, h.above, k.below)))

pub without_keeps : WithoutKeeps
without_keeps a c x h other =
    let P : Option Bounds → Type 0 = λ o. (s : Bounds) × (o ≡ Some s) × InBounds s x in
    cond_both (nat_eq a.low c) _ _ P
    (λ e.
    let low_is = (Decides-eqb a.low c).0 e in
    cond_both (nat_le (a.low + 1) a.high) (Some (bounds (a.low + 1) a.high)) None P
    (λ _. (bounds (a.low + 1) a.high, refl, record { above = omega (arith, h.above); below = h.below; fits = omega arith }))
    (λ t. absurd (omega (arith, leb-false (a.low + 1) a.high t, h.above, h.below))))
    (λ _. cond_both (nat_eq a.high c) (Some (bounds a.low (a.high - 1))) (Some a) P
    (λ e. let high_is = (Decides-eqb a.high c).0 e in (bounds a.low (a.high - 1), refl, record { above = h.above; below = omega (arith, h.below); fits = omega arith }))
    (λ _. (a, refl, h)))

pub cut_contains : CutContains
cut_contains a x h =
    cond_both (nat_lt a.high (2 ^ 32)) a (bounds 0 (2 ^ 32 - 1)) (λ r. InBounds r (x % 2 ^ 32))
    (λ t.
    let small = ltb-true a.high (2 ^ 32) t in
    let same : x % 2 ^ 32 ≡ x = omega (arith, h.below) in
    subst (λ n. InBounds a n) (sym same) h)
    (λ _. record { above = omega arith; below = omega arith; fits = omega arith })

pub width_contains : WidthContains
unfolding bounds_of_bits
width_contains n x within fits = record {
  above = omega arith;
  below = omega arith;
  fits = omega (arith, pow_pos n, pow_mono within);
}

pub included_contains : IncludedKeeps
included_contains a b x fits test h =
    let parts = and_parts (nat_le b.low a.low) (nat_le a.high b.high) test in
    record {
      above = omega (arith, leb-true b.low a.low parts.0, h.above);
      below = omega (arith, leb-true a.high b.high parts.1, h.below);
      fits = fits;
    }
