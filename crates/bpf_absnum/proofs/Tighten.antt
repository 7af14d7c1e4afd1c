-- Tightening keeps each word.
use Rattle.std.proofs.Common.{ℕ, ◌≡◌, ◌-◌, ◌*◌, ◌/◌, ◌^◌, ◌<◌, ◌≤◌, min, max, refl, sym, ap, subst, ◌∙◌, arith, bit_and, bit_or, Some, None, Option}
use Rattle.std.specs.Prelude.{nat_le, nat_lt, ◌||◌}
use Rattle.std.specs.Int.{leading_zeros, w64}
use Rattle.std.specs.Int.Bits.{bit_xor, xor_add_and}
use Rattle.std.proofs.lemmas.Nat.{and_le_r, and_le_l, xor_lt, xor_shr, leading_length, leading_le, pow_pos}
use Rattle.std.proofs.lemmas.Nat.Bits.{and_high_mask, ones_shr}
use Rattle.std.proofs.lemmas.Bool.{cond_both, leb-false}
use Rattle.std.proofs.Math.Nat.{div-eq_of_lt}
use Rattle.std.proofs.Math.Pow.{shr_mono, pow_mono}
use Rattle.bpf_words.specs.Word.{word_not}
use Rattle.bpf_tnum.specs.Tnum.{Bits, InTnum, tnum_meet}
use Rattle.bpf_tnum.proofs.Contains.{value_within, within_most, most_is_or, most, most-lt}
use Rattle.bpf_tnum.proofs.Meet.{meet_contains}
use Rattle.bpf_interval.specs.Interval.{Bounds, InBounds, bounds}
use Rattle.bpf_interval.specs.Signed.{InSigned, place, narrowed}
use Rattle.bpf_interval.proofs.SoundSigned.{signed_narrow_keeps, unsigned_narrow_keeps}
use Rattle.bpf_absnum.specs.Number.{Num, InNum, num_of, ones_up_to, shared_bits, and_then, sign_step, tightened, tightened_between, num_tighten, or_full}

-- numbers that differ only below bit k agree above it
same_front : (k l h : ℕ) → bit_xor l h < 2 ^ k → l / 2 ^ k ≡ h / 2 ^ k
same_front k l h small =
    let apart : bit_xor (l / 2 ^ k) (h / 2 ^ k) ≡ 0 = sym (xor_shr l h k) ∙ div-eq_of_lt small in
    omega (arith, xor_add_and (l / 2 ^ k) (h / 2 ^ k), and_le_l (l / 2 ^ k) (h / 2 ^ k), and_le_r (l / 2 ^ k) (h / 2 ^ k))

front_between : (k l h x : ℕ) → bit_xor l h < 2 ^ k → l ≤ x → x ≤ h → x / 2 ^ k ≡ l / 2 ^ k
front_between k l h x small above below =
    omega (arith, same_front k l h small, shr_mono k above, shr_mono k below)

front_mask : (k n : ℕ) → k ≤ 64 → n < 2 ^ 64 → bit_and n (word_not (2 ^ k - 1)) ≡ n / 2 ^ k * 2 ^ k
front_mask k n within fits =
    let e : word_not (2 ^ k - 1) ≡ 2 ^ 64 - 2 ^ k = omega (arith, pow_pos k, pow_mono within) in
    ap (bit_and n) e ∙ and_high_mask 64 k within n fits

pub shared_contains : (l h x : ℕ) → h < 2 ^ 64 → l ≤ x → x ≤ h → InTnum (shared_bits l h) x
shared_contains l h x fits above below =
    let d = bit_xor l h in
    let d_fits : d < 2 ^ 64 = xor_lt 64 l h (omega arith) fits in
    let length = leading_length 64 d d_fits in
    let k = 64 - leading_zeros w64 d in
    let k_is : k ≡ length.0 = omega (arith, length.1) in
    let small : d < 2 ^ k = subst (λ n. d < 2 ^ n) (sym k_is) length.2 in
    let within : k ≤ 64 = omega arith in
    record {
      mask_is_word = omega (arith, pow_mono within, pow_pos k);
      is_word = omega arith;
      known =
          front_mask k x within (omega arith) ∙ ap (λ n. n * 2 ^ k) (front_between k l h x small above below) ∙ sym (front_mask k l within (omega arith));
    }

pub bits_tighten_keeps : (a : Bounds) (t : Bits) (x : ℕ) → InBounds a x → InTnum t x → (r : Bounds × Bits) × (tightened a t ≡ Some r) × InBounds r.0 x × InTnum r.1 x
unfolding tightened_between
bits_tighten_keeps a t x h k =
    let l = max a.low t.value in
    let u = min a.high (bit_or t.value t.mask) in
    let above : l ≤ x = omega (arith, h.above, value_within t x k, and_le_r t.value x) in
    let below : x ≤ u = omega (arith, h.below, within_most t x k, and_le_r x (most t), most_is_or t x k) in
    let fits : u < 2 ^ 64 = omega (arith, most_is_or t x k, most-lt t x k) in
    let met = meet_contains t (shared_bits l u) x k (shared_contains l u x fits above below) in
    let P : Option (Bounds × Bits) → Type 0 = λ o. (r : Bounds × Bits) × (o ≡ Some r) × InBounds r.0 x × InTnum r.1 x in
    cond_both (nat_le l u) (and_then (tnum_meet t (shared_bits l u)) (λ v. Some (bounds l u, v))) None P
    (λ _. ((bounds l u, met.0), ap (λ o. and_then o (λ v. Some (bounds l u, v))) met.1, record { above = above; below = below; fits = fits }, met.2))
    (λ e. absurd (omega (arith, leb-false l u e, above, below)))

-- o is a value that meets P
abbrev pub Gives : {X : Type 0} → (X → Type 0) → Option X → Type 0
Gives {X} P o = (r : X) × (o ≡ Some r) × P r

pub then_gives : {X Y : Type 0} (P : X → Type 0) (Q : Y → Type 0) (o : Option X) (f : X → Option Y) → Gives P o → ((x : X) → P x → Gives Q (f x)) → Gives Q (and_then o f)
then_gives P Q o f g h = let rest = h g.0 g.2 in (rest.0, ap (λ p. and_then p f) g.1 ∙ rest.1, rest.2)

sign_step_gives : {X : Type 0} (Q : X → Type 0) (r s : Bounds) (f : Bounds → Bounds → Option X) (x : ℕ) → x < 2 ^ 64 → InBounds r x → InSigned s x
    → ((r2 s2 : Bounds) → InBounds r2 x → InSigned s2 x → Gives Q (f r2 s2)) → Gives Q (sign_step r s f)
sign_step_gives Q r s f x fits h k rest =
    then_gives (λ s1. InSigned s1 x) Q (narrowed r s) (λ s1. and_then (narrowed s1 r) (λ r1. f r1 s1))
    (signed_narrow_keeps r s x h k)
    (λ s1 k1. then_gives (λ r1. InBounds r1 x) Q (narrowed s1 r) (λ r1. f r1 s1)
    (unsigned_narrow_keeps s1 r x fits k1 h)
    (λ r1 h1. rest r1 s1 h1 k1))

pub tighten_gives : (r s : Bounds) (t : Bits) (x : ℕ) → InBounds r x → InSigned s x → InTnum t x → Gives (λ n. InNum n x) (num_tighten r s t)
unfolding num_tighten
tighten_gives r s t x h k b =
    let Q : Num → Type 0 = λ n. InNum n x in
    sign_step_gives Q r s (λ r1 s1. and_then (tightened r1 t) (λ p. sign_step p.0 s1 (λ r2 s2. Some (num_of r2 s2 p.1)))) x b.is_word h k
    (λ r1 s1 h1 k1.
    then_gives (λ p. InBounds p.0 x × InTnum p.1 x) Q (tightened r1 t) (λ p. sign_step p.0 s1 (λ r2 s2. Some (num_of r2 s2 p.1)))
    (let g = bits_tighten_keeps r1 t x h1 b in (g.0, g.1, (g.2, g.3)))
    (λ p q. sign_step_gives Q p.0 s1 (λ r2 s2. Some (num_of r2 s2 p.1)) x b.is_word q.0 k1
    (λ r2 s2 h2 k2. (num_of r2 s2 p.1, refl, record { within = h2; reads = k2; known = q.1 }))))

pub or_full_keeps : (o : Option Num) (x : ℕ) → Gives (λ n. InNum n x) o → InNum (or_full o) x
or_full_keeps o x g = subst (λ p. InNum (or_full p) x) (sym g.1) g.2

-- ---- tightening raises no upper end

-- the value of o, if any, meets P
abbrev pub IfGives : {X : Type 0} → (X → Type 0) → Option X → Type 0
IfGives {X} P o = (r : X) → o ≡ Some r → P r

then_if_gives : {X Y : Type 0} (P : X → Type 0) (Q : Y → Type 0) (o : Option X) (f : X → Option Y) → IfGives P o → ((x : X) → P x → IfGives Q (f x)) → IfGives Q (and_then o f)
then_if_gives P Q None f g h = λ r e. absurd (cc)
then_if_gives P Q (Some x) f g h = h x (g x refl)

narrowed_high : (a b : Bounds) (n : ℕ) → b.high ≤ n → IfGives (λ r. r.high ≤ n) (narrowed a b)
narrowed_high a b n h =
    cond_both (nat_lt a.high (2 ^ 63) || nat_le (2 ^ 63) a.low) _ (Some b) (IfGives (λ r. r.high ≤ n))
    (λ _. cond_both (nat_le (max b.low (place a.low)) (min b.high (place a.high))) (Some (bounds (max b.low (place a.low)) (min b.high (place a.high)))) None (IfGives (λ r. r.high ≤ n))
    (λ _ r e. let f : bounds (max b.low (place a.low)) (min b.high (place a.high)) ≡ r = cc in omega (arith, ap (λ q. q.high) f))
    (λ _ r e. absurd (cc)))
    (λ _ r e. let f : b ≡ r = cc in omega (arith, ap (λ q. q.high) f))

bits_tightened_high : (a : Bounds) (t : Bits) (n : ℕ) → a.high ≤ n → IfGives (λ p. p.0.high ≤ n) (tightened a t)
unfolding tightened_between
bits_tightened_high a t n h =
    let l = max a.low t.value in
    let u = min a.high (bit_or t.value t.mask) in
    cond_both (nat_le l u) (and_then (tnum_meet t (shared_bits l u)) (λ v. Some (bounds l u, v))) None (IfGives (λ p. p.0.high ≤ n))
    (λ _. then_if_gives (λ _. Unit {0}) (λ p. p.0.high ≤ n) (tnum_meet t (shared_bits l u)) (λ v. Some (bounds l u, v)) (λ _ _. tt)
    (λ v _ r e. let f : (bounds l u, v) ≡ r = cc in omega (arith, ap (λ q. q.0.high) f)))
    (λ _ r e. absurd (cc))

sign_step_high : {X : Type 0} (Q : X → Type 0) (r s : Bounds) (f : Bounds → Bounds → Option X) (n : ℕ) → r.high ≤ n
    → ((r2 s2 : Bounds) → r2.high ≤ n → IfGives Q (f r2 s2)) → IfGives Q (sign_step r s f)
sign_step_high Q r s f n h rest =
    then_if_gives (λ _. Unit {0}) Q (narrowed r s) (λ s1. and_then (narrowed s1 r) (λ r1. f r1 s1)) (λ _ _. tt)
    (λ s1 _. then_if_gives (λ r1. r1.high ≤ n) Q (narrowed s1 r) (λ r1. f r1 s1) (narrowed_high s1 r n h) (λ r1 k. rest r1 s1 k))

pub tightened_high : (r s : Bounds) (t : Bits) (n : ℕ) → r.high ≤ n → IfGives (λ m. m.range.high ≤ n) (num_tighten r s t)
unfolding num_tighten
tightened_high r s t n h =
    let Q : Num → Type 0 = λ m. m.range.high ≤ n in
    sign_step_high Q r s (λ r1 s1. and_then (tightened r1 t) (λ p. sign_step p.0 s1 (λ r2 s2. Some (num_of r2 s2 p.1)))) n h
    (λ r1 s1 k. then_if_gives (λ p. p.0.high ≤ n) Q (tightened r1 t) (λ p. sign_step p.0 s1 (λ r2 s2. Some (num_of r2 s2 p.1))) (bits_tightened_high r1 t n k)
    (λ p q. sign_step_high Q p.0 s1 (λ r2 s2. Some (num_of r2 s2 p.1)) n q
    (λ r2 s2 l m e. let f : num_of r2 s2 p.1 ≡ m = cc in omega (arith, ap (λ c. c.range.high) f))))

-- the mask that the code computes
pub mask_of_zero : ones_up_to 0 ≡ 0
mask_of_zero =
    let length = leading_length 64 0 (omega arith) in
    let e : 64 - leading_zeros w64 0 ≡ length.0 = omega (arith, length.1) in
    ap (λ n. 2 ^ n - 1) e ∙ omega (arith, length.3)

pub mask_by_shift : (n : ℕ) → (2 ^ 64 - 1) / 2 ^ leading_zeros w64 n ≡ ones_up_to n
mask_by_shift n = ones_shr 64 (leading_zeros w64 n) (leading_le 64 n)
