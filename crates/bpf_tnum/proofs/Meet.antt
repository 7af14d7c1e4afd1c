-- Intersection, inclusion, and range refinement by a branch on bits.
use Rattle.std.proofs.Common.{ℕ, ◌≡◌, ◌^◌, ◌<◌, refl, ap, ◌∙◌, arith, bit_and, bit_or, true, cond, Some, None}
use Rattle.std.specs.Prelude.{nat_eq}
use Rattle.std.specs.Int.Bits.{bit_xor}
use Rattle.std.proofs.lemmas.Bool.{and_parts}
use Rattle.std.proofs.lemmas.Bool.Decides.{Decides-eqb}
use Rattle.bpf_words.specs.Word.{word_not}
use Rattle.bpf_tnum.specs.Tnum.{Bits, InTnum, tnum_of, tnum_meet, tnum_included}
use Rattle.bpf_words.proofs.Table.{A, B, C, D, none, both, either, differing, without, word-lt, by_table, by_table_given}

-- a number of both is in their intersection
pub meet_contains : (a b : Bits) (x : ℕ) → InTnum a x → InTnum b x → (r : Bits) × (tnum_meet a b ≡ Some r) × InTnum r x
unfolding tnum_meet
meet_contains a b x h k =
    let mu = bit_and a.mask b.mask in
    let r = tnum_of (bit_and (bit_or a.value b.value) (word_not mu)) mu in
    let va = both A (without B) in
    let vb = both A (without C) in
    let agree : bit_and (bit_and (bit_xor a.value b.value) (word_not a.mask)) (word_not b.mask) ≡ 0 =
    rw (← h.known, ← k.known)
    (by_table (both (both (differing va vb) (without B)) (without C)) none refl x a.mask b.mask 0 h.is_word h.mask_is_word k.mask_is_word (omega arith)) in
    let test : nat_eq (bit_and (bit_and (bit_xor a.value b.value) (word_not a.mask)) (word_not b.mask)) 0 ≡ true = (Decides-eqb _ 0).1 agree in (
      r,
      ap (λ t. cond t (Some r) None) test,
      record {
        mask_is_word = word-lt x a.mask b.mask 0 h.is_word h.mask_is_word k.mask_is_word (omega arith) (both B C);
        is_word = h.is_word;
        known =
            rw (← h.known, ← k.known)
            (by_table (both A (without (both B C))) (both (either va vb) (without (both B C))) refl x a.mask b.mask 0 h.is_word h.mask_is_word k.mask_is_word (omega arith));
      },
    )

-- inclusion in a tristate number whose value and mask share no bit
pub included_contains : (a b : Bits) (x : ℕ) → b.value < 2 ^ 64 → b.mask < 2 ^ 64 → bit_and b.value b.mask ≡ 0
    → tnum_included a b ≡ true → InTnum a x → InTnum b x
unfolding tnum_included
included_contains a b x value_fits mask_fits apart test h =
    let parts = and_parts (nat_eq (bit_and (bit_xor a.value b.value) (word_not b.mask)) 0) (nat_eq (bit_and a.mask (word_not b.mask)) 0) test in
    let same : bit_and (bit_xor a.value b.value) (word_not b.mask) ≡ 0 = (Decides-eqb (bit_and (bit_xor a.value b.value) (word_not b.mask)) 0).0 parts.0 in
    let wider : bit_and a.mask (word_not b.mask) ≡ 0 = (Decides-eqb (bit_and a.mask (word_not b.mask)) 0).0 parts.1 in
    let same_at_x : bit_and (bit_xor (bit_and x (word_not a.mask)) b.value) (word_not b.mask) ≡ 0 =
    ap (λ v. bit_and (bit_xor v b.value) (word_not b.mask)) h.known ∙ same in
    let given = either (either (both (differing (both A (without C)) B) (without D)) (both C (without D))) (both B D) in
    record {
      mask_is_word = mask_fits;
      is_word = h.is_word;
      known =
          by_table_given given none (both A (without D)) B refl x b.value a.mask b.mask h.is_word value_fits h.mask_is_word mask_fits
          (λ i. bit_or (bit_or (same_at_x i) (wider i)) (apart i));
    }

-- range refinement by a branch on bits: `x & c` is 0, or is c
pub clear_contains : (c x : ℕ) → c < 2 ^ 64 → x < 2 ^ 64 → bit_and x c ≡ 0 → InTnum (tnum_of 0 (word_not c)) x
clear_contains c x c_fits fits h = record {
  mask_is_word = omega arith;
  is_word = fits;
  known = by_table_given (both A B) none (both A (without (without B))) none refl x c 0 0 fits c_fits (omega arith) (omega arith) h;
}

pub set_contains : (c x : ℕ) → c < 2 ^ 64 → x < 2 ^ 64 → bit_and x c ≡ c → InTnum (tnum_of c (word_not c)) x
set_contains c x c_fits fits h = record {
  mask_is_word = omega arith;
  is_word = fits;
  known = by_table_given (both A B) B (both A (without (without B))) B refl x c 0 0 fits c_fits (omega arith) (omega arith) h;
}
