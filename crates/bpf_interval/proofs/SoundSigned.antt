-- The operations on signed intervals contain every result.
use Rattle.std.proofs.Common.{ℕ, suc, ◌≡◌, ◌+◌, ◌-◌, ◌*◌, ◌/◌, ◌%◌, ◌^◌, ◌<◌, ◌≤◌, refl, sym, ap, subst, ◌∙◌, arith, ⊎_elim, true, Some, None, Option, ◌||◌, pos}
use Rattle.std.proofs.Math.IntN.{negsuc, ◌+ℤ◌}
use mir.Val.{sel}
use Rattle.std.specs.Prelude.{ℤ, nat_lt, nat_le, FitsSigned}
use Rattle.std.specs.Int.{cast_signed, w64}
use Rattle.std.proofs.lemmas.Bool.{cond_both, cond-true, cond-false, cases_lt, or_cases, ltb-true, leb-true, lt-ltb, le-ltb, ne_eqb}
use Rattle.std.proofs.lemmas.Bool.Decides.{leb_tells}
use Rattle.std.proofs.lemmas.Int.{ints, to_z_pos}
use Rattle.std.proofs.lemmas.Nat.{pow_pos, pow-add, le-div}
use Rattle.std.proofs.Math.Nat.{div-le_self, div-mul-le_self, mod-lt, mod-le, mod-eq_of_lt, add-mul-mod_self_right, pow-suc}
use Rattle.std.proofs.Math.Pow.{shr_mono, pow_mono}
use Rattle.bpf_words.specs.Word.{word_add, word_sub, word_of, shifted_right_signed, signed_quotient, signed_remainder, sign_extended}
use Rattle.bpf_interval.specs.Interval.{Bounds, InBounds, bounds}
use Rattle.bpf_interval.specs.Signed.{place, word_at, InSigned, narrowed, in_range, signed_sum, signed_difference, signed_add, signed_sub, between, at_ends, signed_sar, signed_div, signed_rem, signed_of_bits}
use Rattle.bpf_interval.specs.Laws.{ContainsSigned, PlacesOrder, PlaceTwice, SignedReads, SignedNarrowKeeps, UnsignedNarrowKeeps, SarContains, DivContains, RemContains, ExtensionContains, ExtensionKeeps}
use Rattle.bpf_interval.proofs.Sound.{meet_contains}

-- ---- places

pub place_twice : PlaceTwice
place_twice x h = omega arith

pub place_low : (x : ℕ) → x < 2 ^ 63 → place x ≡ x + 2 ^ 63
place_low x h = omega arith

pub place_high : (x : ℕ) → 2 ^ 63 ≤ x → x < 2 ^ 64 → place x ≡ x - 2 ^ 63
place_high x h k = omega arith

-- a signed number is its place less 2 ^ 63
signed_high : (x : ℕ) → 2 ^ 63 ≤ x → cast_signed w64 x ≡ negsuc (2 ^ 64 - suc x)
signed_high x h =
    ⊎_elim (λ p. absurd (omega (arith, p.1))) (λ p. ap (λ t. sel t (pos x) (negsuc (2 ^ 64 - suc x))) p.0) (leb_tells (suc x) (2 ^ 63))

pub signed_is : (x : ℕ) → x < 2 ^ 64 → cast_signed w64 x +ℤ pos (2 ^ 63) ≡ pos (place x)
signed_is x h =
    ⊎_elim
    (λ less. rw (to_z_pos w64 x less) (omega (arith, ints)))
    (λ more. rw (signed_high x more) (omega (arith, ints)))
    (cases_lt x (2 ^ 63))

pub places_order : PlacesOrder
places_order x y h k = (λ p. omega (arith, ints, signed_is x h, signed_is y k), λ p. omega (arith, ints, signed_is x h, signed_is y k))

-- the place of a number that fits
number_is : (z : ℤ) → FitsSigned w64 z → z +ℤ pos (2 ^ 63) ≡ pos (place (word_of z))
number_is (pos n) h = omega (arith, ints)
number_is (negsuc n) h = omega (arith, ints)

pub signed_reads : SignedReads
signed_reads l h x p q fits = (
  (λ k. (omega (arith, ints, signed_is x fits, number_is l p, k.above), omega (arith, ints, signed_is x fits, number_is h q, k.below))),
  (λ k. record {
    above = omega (arith, ints, signed_is x fits, number_is l p, k.0);
    below = omega (arith, ints, signed_is x fits, number_is h q, k.1);
    fits = omega arith;
  }),
)

-- ---- narrowing by the other signedness

one_sign : (a : Bounds) (x : ℕ) → (nat_lt a.high (2 ^ 63) || nat_le (2 ^ 63) a.low) ≡ true → InBounds a x → InBounds (bounds (place a.low) (place a.high)) (place x)
one_sign a x t h =
    ⊎_elim
    (λ e. let low = ltb-true a.high (2 ^ 63) e in record { above = omega (arith, h.above, h.below); below = omega (arith, h.above, h.below); fits = omega arith })
    (λ e. let low = leb-true (2 ^ 63) a.low e in record { above = omega (arith, h.above, h.below, h.fits); below = omega (arith, h.above, h.below, h.fits); fits = omega arith })
    (or_cases (nat_lt a.high (2 ^ 63)) (nat_le (2 ^ 63) a.low) t)

pub signed_narrow_keeps : SignedNarrowKeeps
signed_narrow_keeps a b x h k =
    cond_both (nat_lt a.high (2 ^ 63) || nat_le (2 ^ 63) a.low) _ (Some b) (λ o. (r : Bounds) × (o ≡ Some r) × InSigned r x)
    (λ t. meet_contains b (bounds (place a.low) (place a.high)) (place x) k (one_sign a x t h))
    (λ _. (b, refl, k))

pub unsigned_narrow_keeps : UnsignedNarrowKeeps
unsigned_narrow_keeps a b x fits h k =
    subst (λ n. (r : Bounds) × (narrowed a b ≡ Some r) × InBounds r n) (place_twice x fits)
    (signed_narrow_keeps a b (place x) h (subst (λ n. InBounds b n) (sym (place_twice x fits)) k))

-- ---- sums and differences

-- from both ends, if both are in range
between_contains : (l h : Option ℕ) (n : ℕ) → n < 2 ^ 64 → ((m k : ℕ) → l ≡ Some m → h ≡ Some k → InBounds (bounds m k) n) → InBounds (between l h) n
between_contains None h n fits f = record { above = omega arith; below = omega arith; fits = omega arith }
between_contains (Some l) None n fits f = record { above = omega arith; below = omega arith; fits = omega arith }
between_contains (Some l) (Some h) n fits f = f l h refl refl

in_range_is : (n m : ℕ) → in_range n ≡ Some m → (n ≡ m) × (n < 2 ^ 64)
in_range_is n m = cond_both (nat_lt n (2 ^ 64)) (Some n) None (λ o. o ≡ Some m → (n ≡ m) × (n < 2 ^ 64)) (λ t e. (cc, ltb-true n (2 ^ 64) t)) (λ _ e. absurd (cc))

sum_is : (x y m : ℕ) → signed_sum x y ≡ Some m → (x + y ≡ m + 2 ^ 63) × (m < 2 ^ 64)
sum_is x y m =
    cond_both (nat_le (2 ^ 63) (x + y)) (in_range (x + y - 2 ^ 63)) None (λ o. o ≡ Some m → (x + y ≡ m + 2 ^ 63) × (m < 2 ^ 64))
    (λ t e. let r = in_range_is (x + y - 2 ^ 63) m e in let le = leb-true (2 ^ 63) (x + y) t in (omega (arith, r.0), omega (arith, r.0, r.1)))
    (λ _ e. absurd (cc))

difference_is : (x y m : ℕ) → signed_difference x y ≡ Some m → (x + 2 ^ 63 ≡ m + y) × (m < 2 ^ 64)
difference_is x y m =
    cond_both (nat_le y (x + 2 ^ 63)) (in_range (x + 2 ^ 63 - y)) None (λ o. o ≡ Some m → (x + 2 ^ 63 ≡ m + y) × (m < 2 ^ 64))
    (λ t e. let r = in_range_is (x + 2 ^ 63 - y) m e in let le = leb-true y (x + 2 ^ 63) t in (omega (arith, r.0), omega (arith, r.0, r.1)))
    (λ _ e. absurd (cc))

-- the place of a sum or a difference in range
sum_places : (x y n : ℕ) → x < 2 ^ 64 → y < 2 ^ 64 → n < 2 ^ 64 → place x + place y ≡ n + 2 ^ 63 → place (word_add x y) ≡ n
sum_places x y n p q h e = omega arith

difference_places : (x y n : ℕ) → x < 2 ^ 64 → y < 2 ^ 64 → n < 2 ^ 64 → place x + 2 ^ 63 ≡ n + place y → place (word_sub x y) ≡ n
difference_places x y n p q h e = omega arith

pub add_contains : ContainsSigned signed_add word_add
unfolding signed_add
add_contains a b x y p q h k =
    between_contains (signed_sum a.low b.low) (signed_sum a.high b.high) (place (word_add x y)) (omega arith)
    (λ l u low high.
    let r = sum_is a.low b.low l low in
    let s = sum_is a.high b.high u high in
    let n = place x + place y - 2 ^ 63 in
    let whole : place x + place y ≡ n + 2 ^ 63 = omega (arith, r.0, h.above, k.above) in
    let e : place (word_add x y) ≡ n = sum_places x y n p q (omega (arith, s.0, s.1, h.below, k.below, whole)) whole in
    record { above = omega (arith, e, r.0, h.above, k.above, whole); below = omega (arith, e, s.0, h.below, k.below, whole); fits = omega arith })

pub sub_contains : ContainsSigned signed_sub word_sub
unfolding signed_sub
sub_contains a b x y p q h k =
    between_contains (signed_difference a.low b.high) (signed_difference a.high b.low) (place (word_sub x y)) (omega arith)
    (λ l u low high.
    let r = difference_is a.low b.high l low in
    let s = difference_is a.high b.low u high in
    let n = place x + 2 ^ 63 - place y in
    let whole : place x + 2 ^ 63 ≡ n + place y = omega (arith, r.0, h.above, k.below) in
    let e : place (word_sub x y) ≡ n = difference_places x y n p q (omega (arith, s.0, s.1, h.below, k.above, whole)) whole in
    record { above = omega (arith, e, r.0, h.above, k.below, whole); below = omega (arith, e, s.0, h.below, k.above, whole); fits = omega arith })

-- ---- operations that keep the signed order

abbrev pub KeepsOrder : (ℕ → ℕ) → Type 0
KeepsOrder f = (x y : ℕ) → x < 2 ^ 64 → y < 2 ^ 64 → place x ≤ place y → place (f x) ≤ place (f y)

-- by cases: two words that aren't negative, two that are, and one of each
order_by_cases : (f : ℕ → ℕ) (x y : ℕ) → x < 2 ^ 64 → y < 2 ^ 64 → place x ≤ place y
    → (x < 2 ^ 63 → y < 2 ^ 63 → x ≤ y → place (f x) ≤ place (f y))
    → (2 ^ 63 ≤ x → 2 ^ 63 ≤ y → x ≤ y → place (f x) ≤ place (f y))
    → (2 ^ 63 ≤ x → y < 2 ^ 63 → place (f x) ≤ place (f y))
    → place (f x) ≤ place (f y)
order_by_cases f x y p q h low high both =
    ⊎_elim
    (λ xl. ⊎_elim (λ yl. low xl yl (omega arith)) (λ yh. absurd (omega arith)) (cases_lt y (2 ^ 63)))
    (λ xh. ⊎_elim (λ yl. both xh yl) (λ yh. high xh yh (omega arith)) (cases_lt y (2 ^ 63)))
    (cases_lt x (2 ^ 63))

-- the results lie between the results at the ends
pub at_ends_contains : (f : ℕ → ℕ) → KeepsOrder f → (a : Bounds) (x : ℕ) → x < 2 ^ 64 → InSigned a x → InSigned (at_ends f a) (f x)
at_ends_contains f keeps a x fits h = record {
  above = keeps (word_at a.low) x (omega arith) fits (omega (arith, h.above, h.below, h.fits));
  below = keeps x (word_at a.high) fits (omega arith) (omega (arith, h.below, h.fits));
  fits = omega arith;
}

-- ---- arithmetic right shift

sar_low : (c x : ℕ) → x < 2 ^ 63 → shifted_right_signed 64 x c ≡ x / 2 ^ (c % 64)
sar_low c x h = cond-true (nat_lt x (2 ^ 63)) _ _ (lt-ltb x (2 ^ 63) h)

sar_high : (c x : ℕ) → 2 ^ 63 ≤ x → shifted_right_signed 64 x c ≡ 2 ^ 64 - 1 - (2 ^ 64 - 1 - x) / 2 ^ (c % 64)
sar_high c x h = cond-false (nat_lt x (2 ^ 63)) _ _ (le-ltb x (2 ^ 63) h)

pub sar_order : (c : ℕ) → KeepsOrder (λ x. shifted_right_signed 64 x c)
sar_order c x y p q h =
    let k = c % 64 in
    order_by_cases (λ z. shifted_right_signed 64 z c) x y p q h
    (λ xl yl le. rw (sar_low c x xl, sar_low c y yl) (omega (arith, shr_mono k le, div-le_self y (2 ^ k))))
    (λ xh yh le.
    let turned : 2 ^ 64 - 1 - y ≤ 2 ^ 64 - 1 - x = omega arith in
    rw (sar_high c x xh, sar_high c y yh) (omega (arith, shr_mono k turned, div-le_self (2 ^ 64 - 1 - x) (2 ^ k))))
    (λ xh yl. rw (sar_high c x xh, sar_low c y yl) (omega (arith, div-le_self (2 ^ 64 - 1 - x) (2 ^ k), div-le_self y (2 ^ k))))

pub sar_contains : SarContains
unfolding signed_sar
sar_contains a c x fits h = at_ends_contains (λ z. shifted_right_signed 64 z c) (sar_order c) a x fits h

-- ---- signed division by a divisor of at least 1

pub div_mono : (c m n : ℕ) → 1 ≤ c → m ≤ n → m / c ≤ n / c
div_mono c m n some h = le-div (m / c) n c some (omega (arith, div-mul-le_self m c))

quotient_low : (c x : ℕ) → 1 ≤ c → c < 2 ^ 63 → x < 2 ^ 63 → signed_quotient 64 x c ≡ x / c
quotient_low c x some small h =
    rw (lt-ltb x (2 ^ 63) h, lt-ltb c (2 ^ 63) small, ne_eqb c 0 (λ z. omega arith)) refl

quotient_high : (c x : ℕ) → 1 ≤ c → c < 2 ^ 63 → 2 ^ 63 ≤ x → signed_quotient 64 x c ≡ (2 ^ 64 - (2 ^ 64 - x) / c) % 2 ^ 64
quotient_high c x some small h =
    rw (le-ltb x (2 ^ 63) h, lt-ltb c (2 ^ 63) small, ne_eqb c 0 (λ z. omega arith)) refl

pub quotient_order : (c : ℕ) → 1 ≤ c → c < 2 ^ 63 → KeepsOrder (λ x. signed_quotient 64 x c)
quotient_order c some small x y p q h =
    order_by_cases (λ z. signed_quotient 64 z c) x y p q h
    (λ xl yl le. rw (quotient_low c x some small xl, quotient_low c y some small yl) (omega (arith, div_mono c x y some le, div-le_self y c)))
    (λ xh yh le.
    let turned : 2 ^ 64 - y ≤ 2 ^ 64 - x = omega arith in
    rw (quotient_high c x some small xh, quotient_high c y some small yh) (omega (arith, div_mono c (2 ^ 64 - y) (2 ^ 64 - x) some turned, div-le_self (2 ^ 64 - x) c)))
    (λ xh yl. rw (quotient_high c x some small xh, quotient_low c y some small yl) (omega (arith, div-le_self (2 ^ 64 - x) c, div-le_self y c)))

pub div_contains : DivContains
unfolding signed_div
div_contains a c x some small fits h = at_ends_contains (λ z. signed_quotient 64 z c) (quotient_order c some small) a x fits h

remainder_low : (c x : ℕ) → 1 ≤ c → c < 2 ^ 63 → x < 2 ^ 63 → signed_remainder 64 x c ≡ x % c
remainder_low c x some small h =
    rw (lt-ltb x (2 ^ 63) h, lt-ltb c (2 ^ 63) small, ne_eqb c 0 (λ z. omega arith)) refl

remainder_high : (c x : ℕ) → 1 ≤ c → c < 2 ^ 63 → 2 ^ 63 ≤ x → signed_remainder 64 x c ≡ (2 ^ 64 - (2 ^ 64 - x) % c) % 2 ^ 64
remainder_high c x some small h =
    rw (le-ltb x (2 ^ 63) h, lt-ltb c (2 ^ 63) small, ne_eqb c 0 (λ z. omega arith)) refl

-- a remainder lies less than c from 0, on the dividend's side
remainder_sides : (c x : ℕ) → 1 ≤ c → c < 2 ^ 63 → x < 2 ^ 64
    → (2 ^ 63 - (c - 1) ≤ place (signed_remainder 64 x c)) × (place (signed_remainder 64 x c) ≤ 2 ^ 63 + (c - 1))
    × (2 ^ 63 ≤ place x → 2 ^ 63 ≤ place (signed_remainder 64 x c)) × (place x ≤ 2 ^ 63 → place (signed_remainder 64 x c) ≤ 2 ^ 63)
remainder_sides c x some small fits =
    ⊎_elim
    (λ low.
    let e = remainder_low c x some small low in
    let less : x % c < c = mod-lt x some in
    let zero_stays : x ≡ 0 → x % c ≡ 0 = λ z. omega (arith, mod-le x c) in
    (rw e (omega arith), rw e (omega arith), rw e (λ k. omega arith), rw e (λ k. omega (arith, zero_stays (omega arith)))))
    (λ high.
    let e = remainder_high c x some small high in
    let less : (2 ^ 64 - x) % c < c = mod-lt (2 ^ 64 - x) some in
    (rw e (omega arith), rw e (omega arith), rw e (λ k. absurd (omega arith)), rw e (λ k. omega arith)))
    (cases_lt x (2 ^ 63))

pub rem_contains : RemContains
unfolding signed_rem
rem_contains a c x some small fits h =
    let sides = remainder_sides c x some small fits in
    let p = place (signed_remainder 64 x c) in
    record {
      above =
          cond_both (nat_le (2 ^ 63) a.low) (2 ^ 63) (2 ^ 63 - (c - 1)) (λ l. l ≤ p)
          (λ t. sides.2 (omega (arith, leb-true (2 ^ 63) a.low t, h.above))) (λ _. sides.0);
      below =
          cond_both (nat_le a.high (2 ^ 63)) (2 ^ 63) (2 ^ 63 + (c - 1)) (λ u. p ≤ u)
          (λ t. sides.3 (omega (arith, leb-true a.high (2 ^ 63) t, h.below))) (λ _. sides.1);
      fits = cond_both (nat_le a.high (2 ^ 63)) (2 ^ 63) (2 ^ 63 + (c - 1)) (λ u. u < 2 ^ 64) (λ _. omega arith) (λ _. omega arith);
    }

-- ---- sign extension

half_of : (n : ℕ) → 1 ≤ n → 2 ^ n ≡ 2 * 2 ^ (n - 1)
half_of n some = let e : suc (n - 1) ≡ n = omega arith in omega (arith, ap (λ k. 2 ^ k) e, pow-suc 2 (n - 1))

extended_low : (n x : ℕ) → x % 2 ^ n < 2 ^ (n - 1) → sign_extended 64 n x ≡ x % 2 ^ n
extended_low n x h = cond-true (nat_lt (x % 2 ^ n) (2 ^ (n - 1))) _ _ (lt-ltb (x % 2 ^ n) (2 ^ (n - 1)) h)

extended_high : (n x : ℕ) → 2 ^ (n - 1) ≤ x % 2 ^ n → sign_extended 64 n x ≡ x % 2 ^ n + (2 ^ 64 - 2 ^ n)
extended_high n x h = cond-false (nat_lt (x % 2 ^ n) (2 ^ (n - 1))) _ _ (le-ltb (x % 2 ^ n) (2 ^ (n - 1)) h)

pub extension_contains : ExtensionContains
unfolding signed_of_bits
extension_contains n x some within =
    let whole : 2 ^ n ≤ 2 ^ 64 = pow_mono within in
    let half : 2 ^ n ≡ 2 * 2 ^ (n - 1) = half_of n some in
    let one : 0 < 2 ^ (n - 1) = pow_pos (n - 1) in
    let less : x % 2 ^ n < 2 ^ n = mod-lt x (pow_pos n) in
    ⊎_elim
    (λ low. let e = extended_low n x low in record { above = rw e (omega arith); below = rw e (omega arith); fits = omega arith })
    (λ high. let e = extended_high n x high in record { above = rw e (omega arith); below = rw e (omega arith); fits = omega arith })
    (cases_lt (x % 2 ^ n) (2 ^ (n - 1)))

-- the low bits of a negative number of n bits
negative_low : (n x : ℕ) → n ≤ 64 → 2 ^ 64 - 2 ^ n ≤ x → x < 2 ^ 64 → x % 2 ^ n ≡ x - (2 ^ 64 - 2 ^ n)
negative_low n x within above fits =
    let one : 0 < 2 ^ (64 - n) = pow_pos (64 - n) in
    let e : 64 ≡ (64 - n) + n = omega arith in
    let split : 2 ^ 64 ≡ 2 ^ (64 - n) * 2 ^ n = ap (λ k. 2 ^ k) e ∙ pow-add 2 (64 - n) n in
    let r = x - (2 ^ 64 - 2 ^ n) in
    let less : 2 ^ (64 - n) - 1 + 1 ≡ 2 ^ (64 - n) = omega arith in
    let product : (2 ^ (64 - n) - 1 + 1) * 2 ^ n ≡ 2 ^ (64 - n) * 2 ^ n = ap (λ k. k * 2 ^ n) less in
    let whole : x ≡ r + (2 ^ (64 - n) - 1) * 2 ^ n = omega (arith, split, product, pow_mono within) in
    ap (λ k. k % 2 ^ n) whole ∙ add-mul-mod_self_right r (2 ^ (64 - n) - 1) (2 ^ n) ∙ mod-eq_of_lt (omega (arith, pow_mono within))

pub extension_keeps : ExtensionKeeps
unfolding signed_of_bits
extension_keeps n x some within fits h =
    let whole : 2 ^ n ≤ 2 ^ 64 = pow_mono within in
    let half : 2 ^ n ≡ 2 * 2 ^ (n - 1) = half_of n some in
    ⊎_elim
    (λ low.
    let small : x < 2 ^ (n - 1) = omega (arith, h.below) in
    let e : x % 2 ^ n ≡ x = mod-eq_of_lt (omega arith) in
    extended_low n x (omega arith) ∙ e)
    (λ high.
    let great : 2 ^ 64 - 2 ^ (n - 1) ≤ x = omega (arith, h.above) in
    let e : x % 2 ^ n ≡ x - (2 ^ 64 - 2 ^ n) = negative_low n x within (omega arith) fits in
    extended_high n x (omega arith) ∙ omega arith)
    (cases_lt x (2 ^ 63))
