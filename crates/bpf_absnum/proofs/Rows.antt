-- The row of each operation contains each result of the machine's operation.
use Rattle.std.proofs.Common.{ℕ, suc, ◌≡◌, ◌-◌, ◌*◌, ◌/◌, ◌%◌, ◌^◌, ◌<◌, ◌≤◌, refl, sym, ap, subst, ◌∙◌, arith, bit_and, bit_or, true, false, cond, Bool, Some, None, Option, ◌&&◌, ◌==◌}
use Rattle.std.specs.Prelude.{nat_lt, nat_le}
use Rattle.std.specs.Int.Bits.{bit_xor}
use Rattle.std.proofs.lemmas.Bool.{cond_both, cond-true, and_parts, ltb-true, ltb-false, leb-true, lt-ltb, eqb-true}
use Rattle.std.proofs.lemmas.Nat.{and_mask, and_le_l, and_le_r, or_lt, xor_lt, pow_pos}
use Rattle.std.proofs.Math.Nat.{div-le_self, mod-le, mod-lt}
use Rattle.std.proofs.Math.Pow.{mod-mod-pow}
use Rattle.bpf_insn.specs.declared.insn.AluOp.{AluOp}
use Rattle.bpf_insn.specs.declared.insn.AluOp.TheVariants.{Add, Sub, Mul, Div, Or, And, Lsh, Rsh, Mod, Xor, Mov, Arsh, Sdiv, Smod}
use Rattle.bpf_model.specs.Alu.{operation}
use Rattle.bpf_words.specs.Word.{word_add, word_sub, negated, magnitude, quotient, remainder, with_sign, is_negative, signed_quotient, signed_remainder, shifted_right_signed}
use Rattle.bpf_tnum.specs.Tnum.{Bits, InTnum, tnum_full, tnum_add, tnum_sub, tnum_and, tnum_or, tnum_xor, tnum_mul, tnum_shl, tnum_shr}
use Rattle.bpf_tnum.proofs.Sound as bits
use Rattle.bpf_tnum.proofs.Low as low
use Rattle.bpf_interval.specs.Interval.{Bounds, InBounds, bounds, bounds_full, bounds_add, bounds_sub, bounds_and, bounds_or, bounds_mul, bounds_div, bounds_rem, bounds_shl, bounds_shr}
use Rattle.bpf_interval.specs.Signed.{InSigned, signed_add, signed_sub, signed_sar, signed_div, signed_rem}
use Rattle.bpf_interval.proofs.Sound as ends
use Rattle.bpf_interval.proofs.SoundSigned as signs
use Rattle.bpf_absnum.specs.Number.{Num, InNum, num_tighten, num_full, num_single, is_single, or_full}
use Rattle.bpf_absnum.specs.Transfer.{num_tight, in_wide, kept, row_add, row_sub, row_mul, row_div, row_mod, row_and, row_or, row_xor, masked, count_of, num_by, row_lsh, row_rsh, row_arsh, divisor_of, row_sdiv, row_smod, num_row}
use Rattle.bpf_absnum.proofs.Tighten.{IfGives, tighten_gives, tightened_high, or_full_keeps}

-- ---- parts of a row

pub tight_keeps : (r s : Bounds) (t : Bits) (x : ℕ) → InBounds r x → InSigned s x → InTnum t x → InNum (num_tight r s t) x
tight_keeps r s t x h k b = or_full_keeps (num_tighten r s t) x (tighten_gives r s t x h k b)

pub full_signed : (x : ℕ) → InSigned bounds_full x
full_signed x = record { above = omega arith; below = omega arith; fits = omega arith }

pub full_keeps : (x : ℕ) → x < 2 ^ 64 → InNum num_full x
full_keeps x fits = record { within = ends.full_contains x fits; reads = full_signed x; known = low.full_contains x fits }

pub single_keeps : (x : ℕ) → x < 2 ^ 64 → InNum (num_single x) x
single_keeps x fits = record {
  within = record { above = omega arith; below = omega arith; fits = fits };
  reads = record { above = omega arith; below = omega arith; fits = omega arith };
  known = low.single_contains x fits;
}

pub kept_keeps : (a : Num) (x : ℕ) → InNum a x → InNum (kept a) x
kept_keeps a x h = tight_keeps a.range a.signed a.bits x h.within h.reads h.known

pub single_is : (a : Num) (x : ℕ) → is_single a ≡ true → InNum a x → a.range.low ≡ x
single_is a x t h = omega (arith, eqb-true a.range.low a.range.high t, h.within.above, h.within.below)

in_wide_keeps : (wide : Bool) (s : Bounds) (x : ℕ) → InSigned s x → InSigned (in_wide wide s) x
in_wide_keeps wide s x h = cond_both wide s bounds_full (λ r. InSigned r x) (λ _. h) (λ _. full_signed x)

-- a row without a signed interval
pub unsigned_keeps : (r : Bounds) (t : Bits) (x : ℕ) → InBounds r x → InTnum t x → InNum (num_tight r bounds_full t) x
unsigned_keeps r t x h b = tight_keeps r bounds_full t x h (full_signed x) b

-- a row of an interval alone
pub range_keeps : (r : Bounds) (x : ℕ) → InBounds r x → InNum (num_tight r bounds_full tnum_full) x
range_keeps r x h = unsigned_keeps r tnum_full x h (low.full_contains x (omega (arith, h.below, h.fits)))

-- a row of a signed interval alone
pub signed_keeps : (s : Bounds) (x : ℕ) → x < 2 ^ 64 → InSigned s x → InNum (num_tight bounds_full s tnum_full) x
signed_keeps s x fits h = tight_keeps bounds_full s tnum_full x (ends.full_contains x fits) h (low.full_contains x fits)

-- ---- the rows

module _ (a b : Num) (x y : ℕ) (h : InNum a x) (k : InNum b y) where
  pub add_keeps : (wide : Bool) → InNum (row_add wide a b) (word_add x y)
  unfolding row_add
  add_keeps wide =
      tight_keeps (bounds_add a.range b.range) (in_wide wide (signed_add a.signed b.signed)) (tnum_add a.bits b.bits) (word_add x y)
      (ends.add_contains a.range b.range x y h.known.is_word k.known.is_word h.within k.within)
      (in_wide_keeps wide (signed_add a.signed b.signed) (word_add x y) (signs.add_contains a.signed b.signed x y h.known.is_word k.known.is_word h.reads k.reads))
      (bits.add_contains a.bits b.bits x y h.known k.known)

  pub sub_keeps : (wide : Bool) → InNum (row_sub wide a b) (word_sub x y)
  unfolding row_sub
  sub_keeps wide =
      tight_keeps (bounds_sub a.range b.range) (in_wide wide (signed_sub a.signed b.signed)) (tnum_sub a.bits b.bits) (word_sub x y)
      (ends.sub_contains a.range b.range x y h.known.is_word k.known.is_word h.within k.within)
      (in_wide_keeps wide (signed_sub a.signed b.signed) (word_sub x y) (signs.sub_contains a.signed b.signed x y h.known.is_word k.known.is_word h.reads k.reads))
      (bits.sub_contains a.bits b.bits x y h.known k.known)

  pub mul_keeps : InNum (row_mul a b) ((x * y) % 2 ^ 64)
  unfolding row_mul
  mul_keeps =
      unsigned_keeps (bounds_mul a.range b.range) (tnum_mul a.bits b.bits) ((x * y) % 2 ^ 64)
      (ends.mul_contains a.range b.range x y h.known.is_word k.known.is_word h.within k.within) (low.mul_contains a.bits b.bits x y h.known k.known)

  pub div_keeps : InNum (row_div a b) (quotient x y)
  unfolding row_div
  div_keeps = range_keeps (bounds_div a.range b.range) (quotient x y) (ends.div_contains a.range b.range x y h.known.is_word k.known.is_word h.within k.within)

  pub mod_keeps : InNum (row_mod a b) (remainder x y)
  unfolding row_mod
  mod_keeps = range_keeps (bounds_rem a.range b.range) (remainder x y) (ends.rem_contains a.range b.range x y h.known.is_word k.known.is_word h.within k.within)

  pub and_keeps : InNum (row_and a b) (bit_and x y)
  unfolding row_and
  and_keeps =
      unsigned_keeps (bounds_and a.range b.range) (tnum_and a.bits b.bits) (bit_and x y)
      (ends.and_contains a.range b.range x y h.known.is_word k.known.is_word h.within k.within) (bits.and_contains a.bits b.bits x y h.known k.known)

  pub or_keeps : InNum (row_or a b) (bit_or x y)
  unfolding row_or
  or_keeps =
      unsigned_keeps (bounds_or a.range b.range) (tnum_or a.bits b.bits) (bit_or x y)
      (ends.or_contains a.range b.range x y h.known.is_word k.known.is_word h.within k.within) (bits.or_contains a.bits b.bits x y h.known k.known)

  pub xor_keeps : InNum (row_xor a b) (bit_xor x y)
  unfolding row_xor
  xor_keeps =
      unsigned_keeps bounds_full (tnum_xor a.bits b.bits) (bit_xor x y)
      (ends.full_contains (bit_xor x y) (xor_lt 64 x y h.known.is_word k.known.is_word)) (bits.xor_contains a.bits b.bits x y h.known k.known)

-- ---- shifts

-- how many bits a shift has
abbrev pub width_of : Bool → ℕ
width_of wide = cond wide 64 32

masked_is : (wide : Bool) (y : ℕ) → bit_and y (cond wide 63 31) ≡ y % width_of wide
masked_is true y = and_mask y 6
masked_is false y = and_mask y 5

masked_keeps : (wide : Bool) (b : Num) (y : ℕ) → InNum b y → InNum (masked wide b) (bit_and y (cond wide 63 31))
unfolding masked
masked_keeps wide b y k =
    let mask = cond wide 63 31 in
    let mask_fits : mask < 2 ^ 64 = cond_both wide 63 31 (λ m. m < 2 ^ 64) (λ _. omega arith) (λ _. omega arith) in
    cond_both (is_single b) (num_single (bit_and b.range.low mask)) (row_and b (num_single mask)) (λ n. InNum n (bit_and y mask))
    (λ t. subst (λ l. InNum (num_single (bit_and l mask)) (bit_and y mask)) (sym (single_is b y t k)) (single_keeps (bit_and y mask) (omega (arith, and_le_l y mask, k.known.is_word))))
    (λ _. and_keeps b (num_single mask) y mask k (single_keeps mask mask_fits))

pub count_is : (wide : Bool) (b : Num) (y c : ℕ) → InNum b y → count_of wide b ≡ Some c → c ≡ y % width_of wide
unfolding count_of
count_is wide b y c k =
    cond_both (is_single (masked wide b)) (Some (masked wide b).range.low) None (λ o. o ≡ Some c → c ≡ y % width_of wide)
    (λ t e. let l : (masked wide b).range.low ≡ c = cc in sym l ∙ single_is (masked wide b) (bit_and y (cond wide 63 31)) t (masked_keeps wide b y k) ∙ masked_is wide y)
    (λ _ e. absurd (cc))

-- the one word of a single number is at most its upper end
or_full_small : (o : Option Num) (n : ℕ) → IfGives (λ m. m.range.high ≤ n) o → is_single (or_full o) ≡ true → (or_full o).range.low ≤ n
or_full_small None n f t = absurd (cc)
or_full_small (Some m) n f t = omega (arith, f m refl, eqb-true m.range.low m.range.high t)

masked_small : (wide : Bool) (b : Num) → is_single (masked wide b) ≡ true → (masked wide b).range.low ≤ 63
unfolding masked row_and
masked_small wide b =
    let mask = cond wide 63 31 in
    let mask_small : mask ≤ 63 = cond_both wide 63 31 (λ m. m ≤ 63) (λ _. omega arith) (λ _. omega arith) in
    cond_both (is_single b) (num_single (bit_and b.range.low mask)) (row_and b (num_single mask)) (λ n. is_single n ≡ true → n.range.low ≤ 63)
    (λ _ _. omega (arith, and_le_r b.range.low mask))
    (λ _. or_full_small (num_tighten (bounds_and b.range (bounds mask mask)) bounds_full (tnum_and b.bits (num_single mask).bits)) 63
    (tightened_high (bounds_and b.range (bounds mask mask)) bounds_full (tnum_and b.bits (num_single mask).bits) 63 (omega arith)))

pub masked_at_most : (wide : Bool) (b m : Num) → m ≡ masked wide b → is_single m ≡ true → m.range.low ≤ 63
masked_at_most wide b m e t = subst (λ n. is_single n ≡ true → n.range.low ≤ 63) (sym e) (masked_small wide b) t

pub count_small : (wide : Bool) (b : Num) (c : ℕ) → count_of wide b ≡ Some c → c < 64
unfolding count_of
count_small wide b c =
    cond_both (is_single (masked wide b)) (Some (masked wide b).range.low) None (λ o. o ≡ Some c → c < 64)
    (λ t e. let l : (masked wide b).range.low ≡ c = cc in omega (arith, l, masked_small wide b t))
    (λ _ e. absurd (cc))

pub by_keeps : (o : Option ℕ) (f : ℕ → Num) (z : ℕ) → z < 2 ^ 64 → ((c : ℕ) → o ≡ Some c → InNum (f c) z) → InNum (num_by o f) z
by_keeps None f z fits h = full_keeps z fits
by_keeps (Some c) f z fits h = h c refl

module _ (a : Num) (c x : ℕ) (h : InNum a x) where
  pub lsh_keeps : InNum (row_lsh a c) ((x * 2 ^ c) % 2 ^ 64)
  unfolding row_lsh
  lsh_keeps = unsigned_keeps (bounds_shl a.range c) (tnum_shl a.bits c) ((x * 2 ^ c) % 2 ^ 64) (ends.shl_contains a.range c x h.within) (low.shl_contains a.bits c x h.known)

  pub rsh_keeps : InNum (row_rsh a c) (x / 2 ^ c)
  unfolding row_rsh
  rsh_keeps = unsigned_keeps (bounds_shr a.range c) (tnum_shr a.bits c) (x / 2 ^ c) (ends.shr_contains a.range c x h.within) (low.shr_contains a.bits c x h.known)

-- a word that isn't negative is shifted as unsigned
sar_is : (x c : ℕ) → x < 2 ^ 63 → c < 64 → shifted_right_signed 64 x c ≡ x / 2 ^ c
sar_is x c h small =
    let e : c % 64 ≡ c = omega arith in
    cond-true (nat_lt x (2 ^ 63)) _ _ (lt-ltb x (2 ^ 63) h) ∙ ap (λ k. x / 2 ^ k) e

sar_fits : (x c : ℕ) → x < 2 ^ 64 → shifted_right_signed 64 x c < 2 ^ 64
sar_fits x c h =
    cond_both (nat_lt x (2 ^ 63)) (x / 2 ^ (c % 64)) (2 ^ 64 - 1 - (2 ^ 64 - 1 - x) / 2 ^ (c % 64)) (λ n. n < 2 ^ 64)
    (λ _. omega (arith, div-le_self x (2 ^ (c % 64)))) (λ _. omega arith)

pub arsh_keeps : (a : Num) (c x : ℕ) → c < 64 → InNum a x → InNum (row_arsh true a c) (shifted_right_signed 64 x c)
unfolding row_arsh
arsh_keeps a c x small h =
    let z = shifted_right_signed 64 x c in
    let fits : z < 2 ^ 64 = sar_fits x c h.known.is_word in
    let signed = signs.sar_contains a.signed c x h.known.is_word h.reads in
    cond_both (nat_lt a.range.high (2 ^ 63)) (num_tight (bounds_shr a.range c) (signed_sar a.signed c) (tnum_shr a.bits c)) (num_tight bounds_full (signed_sar a.signed c) tnum_full)
    (λ n. InNum n z)
    (λ t.
    let below : x < 2 ^ 63 = omega (arith, ltb-true a.range.high (2 ^ 63) t, h.within.below) in
    let e : z ≡ x / 2 ^ c = sar_is x c below small in
    tight_keeps (bounds_shr a.range c) (signed_sar a.signed c) (tnum_shr a.bits c) z
    (subst (InBounds (bounds_shr a.range c)) (sym e) (ends.shr_contains a.range c x h.within)) signed
    (subst (InTnum (tnum_shr a.bits c)) (sym e) (low.shr_contains a.bits c x h.known)))
    (λ _. signed_keeps (signed_sar a.signed c) z fits signed)

-- ---- signed division

divisor_is : (wide : Bool) (b : Num) (c : ℕ) → divisor_of wide b ≡ Some c → (wide ≡ true) × (is_single b ≡ true) × (1 ≤ c) × (c < 2 ^ 63) × (b.range.low ≡ c)
unfolding divisor_of
divisor_is wide b c =
    let P : Type 0 = (wide ≡ true) × (is_single b ≡ true) × (1 ≤ c) × (c < 2 ^ 63) × (b.range.low ≡ c) in
    cond_both (wide && is_single b && nat_le 1 b.range.low && nat_lt b.range.low (2 ^ 63)) (Some b.range.low) None (λ o. o ≡ Some c → P)
    (λ t e.
    let l : b.range.low ≡ c = cc in
    let u = and_parts (wide && is_single b && nat_le 1 b.range.low) (nat_lt b.range.low (2 ^ 63)) t in
    let v = and_parts (wide && is_single b) (nat_le 1 b.range.low) u.0 in
    let w = and_parts wide (is_single b) v.0 in
    (w.0, w.1, omega (arith, l, leb-true 1 b.range.low v.1), omega (arith, l, ltb-true b.range.low (2 ^ 63) u.1), l))
    (λ _ e. absurd (cc))

-- quotients and remainders stay words of n bits
quotient_le : (x y : ℕ) → quotient x y ≤ x
quotient_le x y = cond_both (y == 0) 0 (x / y) (λ q. q ≤ x) (λ _. omega arith) (λ _. div-le_self x y)

remainder_le : (x y : ℕ) → remainder x y ≤ x
remainder_le x y = cond_both (y == 0) x (x % y) (λ q. q ≤ x) (λ _. omega arith) (λ _. mod-le x y)

-- n is 64 or 32, written as suc m
with_sign-lt : (m : ℕ) (negative : Bool) (q : ℕ) → q < 2 ^ suc m → with_sign (suc m) negative q < 2 ^ suc m
with_sign-lt m negative q h =
    cond_both negative (negated (suc m) q) q (λ r. r < 2 ^ suc m) (λ _. mod-lt (2 ^ suc m - q) (pow_pos (suc m))) (λ _. h)

magnitude-lt : (m x : ℕ) → x < 2 ^ suc m → magnitude (suc m) x < 2 ^ suc m
magnitude-lt m x h =
    cond_both (nat_lt x (2 ^ (suc m - 1))) x (2 ^ suc m - x) (λ r. r < 2 ^ suc m) (λ _. h)
    (λ t. omega (arith, ltb-false x (2 ^ (suc m - 1)) t, pow_pos (suc m - 1)))

signed_quotient-lt : (m x y : ℕ) → x < 2 ^ suc m → signed_quotient (suc m) x y < 2 ^ suc m
signed_quotient-lt m x y h =
    cond_both (nat_lt x (2 ^ (suc m - 1)))
    (with_sign (suc m) (is_negative (suc m) y) (quotient x (magnitude (suc m) y)))
    (with_sign (suc m) (nat_lt y (2 ^ (suc m - 1))) (quotient (magnitude (suc m) x) (magnitude (suc m) y)))
    (λ r. r < 2 ^ suc m)
    (λ _. with_sign-lt m (is_negative (suc m) y) (quotient x (magnitude (suc m) y)) (omega (arith, quotient_le x (magnitude (suc m) y))))
    (λ _. with_sign-lt m (nat_lt y (2 ^ (suc m - 1))) (quotient (magnitude (suc m) x) (magnitude (suc m) y)) (omega (arith, quotient_le (magnitude (suc m) x) (magnitude (suc m) y), magnitude-lt m x h)))

signed_remainder-lt : (m x y : ℕ) → x < 2 ^ suc m → signed_remainder (suc m) x y < 2 ^ suc m
signed_remainder-lt m x y h =
    with_sign-lt m (is_negative (suc m) x) (remainder (magnitude (suc m) x) (magnitude (suc m) y)) (omega (arith, remainder_le (magnitude (suc m) x) (magnitude (suc m) y), magnitude-lt m x h))

sdiv_keeps : (wide : Bool) (a b : Num) (x y : ℕ) → InNum a x → InNum b y → InNum (num_by (divisor_of wide b) (row_sdiv a)) (signed_quotient 64 x y)
unfolding row_sdiv
sdiv_keeps wide a b x y h k =
    let z = signed_quotient 64 x y in
    let fits : z < 2 ^ 64 = signed_quotient-lt 63 x y h.known.is_word in
    by_keeps (divisor_of wide b) (row_sdiv a) z fits
    (λ c e.
    let d = divisor_is wide b c e in
    let same : y ≡ c = sym (single_is b y d.1 k) ∙ d.4 in
    signed_keeps (signed_div a.signed c) z fits
    (subst (λ n. InSigned (signed_div a.signed c) (signed_quotient 64 x n)) (sym same) (signs.div_contains a.signed c x d.2 d.3 h.known.is_word h.reads)))

smod_keeps : (wide : Bool) (a b : Num) (x y : ℕ) → InNum a x → InNum b y → InNum (num_by (divisor_of wide b) (row_smod a)) (signed_remainder 64 x y)
unfolding row_smod
smod_keeps wide a b x y h k =
    let z = signed_remainder 64 x y in
    let fits : z < 2 ^ 64 = signed_remainder-lt 63 x y h.known.is_word in
    by_keeps (divisor_of wide b) (row_smod a) z fits
    (λ c e.
    let d = divisor_is wide b c e in
    let same : y ≡ c = sym (single_is b y d.1 k) ∙ d.4 in
    signed_keeps (signed_rem a.signed c) z fits
    (subst (λ n. InSigned (signed_rem a.signed c) (signed_remainder 64 x n)) (sym same) (signs.rem_contains a.signed c x d.2 d.3 h.known.is_word h.reads)))

-- ---- ALU64

-- a shift by the masked count
shift_keeps : (wide : Bool) (b : Num) (f : ℕ → Num) (g : ℕ → ℕ) (y : ℕ) → InNum b y → g (y % width_of wide) < 2 ^ 64
    → ((c : ℕ) → c < 64 → InNum (f c) (g c)) → InNum (num_by (count_of wide b) f) (g (y % width_of wide))
shift_keeps wide b f g y k fits rest =
    by_keeps (count_of wide b) f (g (y % width_of wide)) fits
    (λ c e. subst (λ n. InNum (f c) (g n)) (count_is wide b y c k e) (rest c (count_small wide b c e)))

-- only the count's low bits matter
sar_masked : (x y : ℕ) → shifted_right_signed 64 x (y % 64) ≡ shifted_right_signed 64 x y
sar_masked x y = let e : y % 64 % 64 ≡ y % 64 = omega arith in ap (λ k. cond (nat_lt x (2 ^ 63)) (x / 2 ^ k) (2 ^ 64 - 1 - (2 ^ 64 - 1 - x) / 2 ^ k)) e

pub wide_row_keeps : (op : AluOp) (a b : Num) (x y : ℕ) → InNum a x → InNum b y → InNum (num_row true op a b) (operation 64 op x y)
unfolding num_row
wide_row_keeps Add a b x y h k = add_keeps a b x y h k true
wide_row_keeps Sub a b x y h k = sub_keeps a b x y h k true
wide_row_keeps Mul a b x y h k = mul_keeps a b x y h k
wide_row_keeps Div a b x y h k = div_keeps a b x y h k
wide_row_keeps Or a b x y h k = or_keeps a b x y h k
wide_row_keeps And a b x y h k = and_keeps a b x y h k
wide_row_keeps Lsh a b x y h k = shift_keeps true b (row_lsh a) (λ c. (x * 2 ^ c) % 2 ^ 64) y k (omega arith) (λ c _. lsh_keeps a c x h)
wide_row_keeps Rsh a b x y h k = shift_keeps true b (row_rsh a) (λ c. x / 2 ^ c) y k (omega (arith, div-le_self x (2 ^ (y % 64)), h.known.is_word)) (λ c _. rsh_keeps a c x h)
wide_row_keeps Mod a b x y h k = mod_keeps a b x y h k
wide_row_keeps Xor a b x y h k = xor_keeps a b x y h k
wide_row_keeps Mov a b x y h k = kept_keeps b y k
wide_row_keeps Arsh a b x y h k =
    subst (InNum (num_by (count_of true b) (row_arsh true a))) (sar_masked x y)
    (shift_keeps true b (row_arsh true a) (λ c. shifted_right_signed 64 x c) y k (sar_fits x (y % 64) h.known.is_word) (λ c small. arsh_keeps a c x small h))
wide_row_keeps Sdiv a b x y h k = sdiv_keeps true a b x y h k
wide_row_keeps Smod a b x y h k = smod_keeps true a b x y h k

-- ---- ALU: the row of the low halves has a word whose low half is the result

pub record HasLow (r : Num) (n : ℕ) : Type 0 where
  pub word : ℕ
  pub member : InNum r word
  pub low_is : word % 2 ^ 32 ≡ n

-- a result that is a low half
half_of : (r : Num) (n : ℕ) → n < 2 ^ 32 → InNum r n → HasLow r n
half_of r n fits h = record { word = n; member = h; low_is = omega arith }

full_half : (n : ℕ) → n < 2 ^ 32 → HasLow num_full n
full_half n fits = half_of num_full n fits (full_keeps n (omega arith))

by_half : (o : Option ℕ) (f : ℕ → Num) (n : ℕ) → n < 2 ^ 32 → ((c : ℕ) → o ≡ Some c → HasLow (f c) n) → HasLow (num_by o f) n
by_half None f n fits h = full_half n fits
by_half (Some c) f n fits h = h c refl

no_divisor : (b : Num) → divisor_of false b ≡ None
unfolding divisor_of
no_divisor b = refl

sar_32_low : (x c : ℕ) → x < 2 ^ 31 → shifted_right_signed 32 x c ≡ x / 2 ^ (c % 32)
sar_32_low x c h = cond-true (nat_lt x (2 ^ 31)) _ _ (lt-ltb x (2 ^ 31) h)

sar_32-lt : (x c : ℕ) → x < 2 ^ 32 → shifted_right_signed 32 x c < 2 ^ 32
sar_32-lt x c h =
    cond_both (nat_lt x (2 ^ 31)) (x / 2 ^ (c % 32)) (2 ^ 32 - 1 - (2 ^ 32 - 1 - x) / 2 ^ (c % 32)) (λ n. n < 2 ^ 32)
    (λ _. omega (arith, div-le_self x (2 ^ (c % 32)))) (λ _. omega arith)

narrow_arsh : (a : Num) (c x y : ℕ) → x < 2 ^ 32 → InNum a x → c ≡ y % 32 → HasLow (row_arsh false a c) (shifted_right_signed 32 x y)
unfolding row_arsh
narrow_arsh a c x y small h e =
    let n = shifted_right_signed 32 x y in
    let fits : n < 2 ^ 32 = sar_32-lt x y small in
    cond_both (nat_lt a.range.high (2 ^ 31)) (num_tight (bounds_shr a.range c) bounds_full (tnum_shr a.bits c)) (num_tight bounds_full bounds_full tnum_full) (λ r. HasLow r n)
    (λ t.
    let below : x < 2 ^ 31 = omega (arith, ltb-true a.range.high (2 ^ 31) t, h.within.below) in
    let same : x / 2 ^ c ≡ n = ap (λ k. x / 2 ^ k) e ∙ sym (sar_32_low x y below) in
    half_of (num_tight (bounds_shr a.range c) bounds_full (tnum_shr a.bits c)) n fits
    (subst (InNum (num_tight (bounds_shr a.range c) bounds_full (tnum_shr a.bits c))) same
    (unsigned_keeps (bounds_shr a.range c) (tnum_shr a.bits c) (x / 2 ^ c) (ends.shr_contains a.range c x h.within) (low.shr_contains a.bits c x h.known))))
    (λ _. half_of (num_tight bounds_full bounds_full tnum_full) n fits (range_keeps bounds_full n (ends.full_contains n (omega arith))))

module _ (a b : Num) (x y : ℕ) (p : x < 2 ^ 32) (q : y < 2 ^ 32) (h : InNum a x) (k : InNum b y) where
  pub narrow_row_keeps : (op : AluOp) → HasLow (num_row false op a b) (operation 32 op x y)
  unfolding num_row
  narrow_row_keeps Add = record { word = word_add x y; member = add_keeps a b x y h k false; low_is = omega arith }
  narrow_row_keeps Sub = record { word = word_sub x y; member = sub_keeps a b x y h k false; low_is = omega arith }
  narrow_row_keeps Mul = record { word = (x * y) % 2 ^ 64; member = mul_keeps a b x y h k; low_is = mod-mod-pow (x * y) 32 32 }
  narrow_row_keeps Div = half_of (row_div a b) (quotient x y) (omega (arith, quotient_le x y)) (div_keeps a b x y h k)
  narrow_row_keeps Or = half_of (row_or a b) (bit_or x y) (or_lt 32 x y p q) (or_keeps a b x y h k)
  narrow_row_keeps And = half_of (row_and a b) (bit_and x y) (omega (arith, and_le_l x y)) (and_keeps a b x y h k)
  narrow_row_keeps Lsh =
      by_half (count_of false b) (row_lsh a) ((x * 2 ^ (y % 32)) % 2 ^ 32) (omega arith)
      (λ c e. record {
        word = (x * 2 ^ c) % 2 ^ 64;
        member = lsh_keeps a c x h;
        low_is = mod-mod-pow (x * 2 ^ c) 32 32 ∙ ap (λ i. (x * 2 ^ i) % 2 ^ 32) (count_is false b y c k e);
      })
  narrow_row_keeps Rsh =
      by_half (count_of false b) (row_rsh a) (x / 2 ^ (y % 32)) (omega (arith, div-le_self x (2 ^ (y % 32))))
      (λ c e. half_of (row_rsh a c) (x / 2 ^ (y % 32)) (omega (arith, div-le_self x (2 ^ (y % 32))))
      (subst (λ i. InNum (row_rsh a c) (x / 2 ^ i)) (count_is false b y c k e) (rsh_keeps a c x h)))
  narrow_row_keeps Mod = half_of (row_mod a b) (remainder x y) (omega (arith, remainder_le x y)) (mod_keeps a b x y h k)
  narrow_row_keeps Xor = half_of (row_xor a b) (bit_xor x y) (xor_lt 32 x y p q) (xor_keeps a b x y h k)
  narrow_row_keeps Mov = half_of (kept b) y q (kept_keeps b y k)
  narrow_row_keeps Arsh = by_half (count_of false b) (row_arsh false a) (shifted_right_signed 32 x y) (sar_32-lt x y p) (λ c e. narrow_arsh a c x y p h (count_is false b y c k e))
  narrow_row_keeps Sdiv =
      by_half (divisor_of false b) (row_sdiv a) (signed_quotient 32 x y) (signed_quotient-lt 31 x y p)
      (λ c e. let n : None ≡ Some c = sym (no_divisor b) ∙ e in absurd (cc))
  narrow_row_keeps Smod =
      by_half (divisor_of false b) (row_smod a) (signed_remainder 32 x y) (signed_remainder-lt 31 x y p)
      (λ c e. let n : None ≡ Some c = sym (no_divisor b) ∙ e in absurd (cc))
