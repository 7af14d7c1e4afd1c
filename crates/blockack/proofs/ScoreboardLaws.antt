-- The bitmap of a scoreboard suffices: what holds for it holds for every scoreboard with this reading.
use Rattle.std.proofs.Common.{◌≡◌, ℕ, ◌+◌, ◌-◌, ◌*◌, ◌/◌, ◌^◌, ◌%◌, ◌<◌, ◌≤◌, ◌≢◌, inl, ⊎_elim, Bool, true, false, cond, refl, sym, ap, ◌∙◌, arith}
use Rattle.std.specs.Prelude.{◌==◌, nat_lt, max, bit_or}
use Rattle.std.specs.Int.{bit_at, w64}
use Rattle.std.proofs.Math.Pow.{pow-lt}
use Rattle.std.proofs.lemmas.Bool.{cases_eq, ne_eqb, eq-eqb}
use Rattle.std.proofs.lemmas.Bool.Decides.{nat_tests}
use Rattle.std.proofs.lemmas.Nat.{shr-shr, or_lt}
use Rattle.std.proofs.lemmas.Nat.Bits.{bit_at-zero, bit_at_above, bit_at_set_same, bit_at_set_other}
use Rattle.blockack.specs.Window.{IsUnwrapped}
use Rattle.blockack.specs.Ring.{ahead}
use Rattle.blockack.specs.Same.{HaveScoreboards}
use Rattle.blockack.specs.Scoreboard.{Scoreboard, blank, first_number, with_number, ReadsScoreboard, AfterDataMark, AfterRequestMark}

pub shift_bit : (n k i : ℕ) → bit_at (n / 2 ^ k) i ≡ bit_at n (k + i)
shift_bit n k i = ap (λ x. x % 2) (shr-shr n k i)

pub past_bit : (n k i : ℕ) → n < 2 ^ 64 → 64 ≤ k → bit_at 0 i ≡ bit_at n (k + i)
past_bit n k i fits far = bit_at-zero i ∙ sym (bit_at_above n 64 (k + i) fits (omega arith))

pub mark_bit : (n k i : ℕ) → k < 64 → bit_at (bit_or n (1 * 2 ^ k % 2 ^ 64)) i ≡ cond (i == k) 1 (bit_at n i)
mark_bit n k i within =
    ⊎_elim
    (λ e. ap (bit_at (bit_or n (1 * 2 ^ k % 2 ^ 64))) e ∙ bit_at_set_same w64 n k within ∙ sym (ap (λ b. cond b 1 (bit_at n i)) (eq-eqb i k e)))
    (λ ne. bit_at_set_other w64 n k within i ne ∙ sym (ap (λ b. cond b 1 (bit_at n i)) (ne_eqb i k ne)))
    (cases_eq i k)

pub mark_fits : (n k size : ℕ) → n < 2 ^ size → k < size → bit_or n (1 * 2 ^ k % 2 ^ 64) < 2 ^ size
mark_fits n k size fits within =
    let p = pow-lt within in
    or_lt size n (1 * 2 ^ k % 2 ^ 64) fits (omega arith)

number_same : (came : ℕ → Bool) (n k : ℕ) → k ≡ n → with_number came n k ≡ true
number_same came n k e = ap (λ b. cond b true (came k)) (eq-eqb k n e)

number_other : (came : ℕ → Bool) (n k : ℕ) → k ≢ n → with_number came n k ≡ came k
number_other came n k e = ap (λ b. cond b true (came k)) (ne_eqb k n e)

-- from the first number on
unwrapped : (board : Scoreboard) (size start bits number : ℕ) → ReadsScoreboard board size start bits → number < 4096 → ahead start number < 2048 → IsUnwrapped (first_number size board) number (first_number size board + ahead start number)
unwrapped board size start bits number reads fits near =
    let b = reads.residue in
    record { residue = omega arith; low = omega arith; high = omega arith }

only : (board : Scoreboard) (size start bits number n : ℕ) → ReadsScoreboard board size start bits → number < 4096 → IsUnwrapped (first_number size board) number n → first_number size board ≤ n → n ≡ first_number size board + ahead start number
only board size start bits number n reads fits is from =
    let b = reads.residue in let x = is.residue in let y = is.high in
    omega arith

pub data_marks : (start bits size number by bits2 : ℕ) → number < 4096 → 1 ≤ size → ahead start number < 2048 → by ≡ ahead start number + 1 - size →
    ((i : ℕ) → bit_at bits2 i ≡ cond (i == ahead start number - by) 1 (bit_at bits (by + i))) →
    (board : Scoreboard) → ReadsScoreboard board size start bits → AfterDataMark size number board ((start + by) % 4096) bits2
data_marks start bits size number by bits2 fits some near is marks board reads =
    let first : ℕ = first_number size board in
    let n : ℕ = first + ahead start number in
    let begins = reads.begins in
    let residue = reads.residue in
    let end2 : ℕ = max board.end n in
    let first2 : end2 + 1 - size ≡ first + by = omega arith in
    record {
      next = record { came = with_number board.came n; end = end2 };
      step = inl (record { n = n; is = unwrapped board size start bits number reads fits near; from_start = omega arith; gains = refl; ends = refl });
      reads = record {
        begins = omega arith;
        residue = omega arith;
        numbers = λ i.
            let at : end2 + 1 - size + i ≡ first + (by + i) = omega arith in
            ap (with_number board.came n) at ∙
            ⊎_elim
            (λ same.
            let f : first + (by + i) ≡ n = omega arith in
            number_same board.came n (first + (by + i)) f ∙ sym (ap (λ x. x == 1) (marks i ∙ ap (λ b. cond b 1 (bit_at bits (by + i))) (eq-eqb i (ahead start number - by) same))))
            (λ ne.
            let f : first + (by + i) ≢ n = λ p. ne (omega arith) in
            number_other board.came n (first + (by + i)) f ∙ reads.numbers (by + i) ∙ sym (ap (λ x. x == 1) (marks i ∙ ap (λ b. cond b 1 (bit_at bits (by + i))) (ne_eqb i (ahead start number - by) ne))))
            (cases_eq i (ahead start number - by));
      };
    }

pub request_begins : (start bits size number bits2 : ℕ) → number < 4096 → 1 ≤ size → ahead start number < 2048 → 0 < ahead start number →
    ((i : ℕ) → bit_at bits2 i ≡ bit_at bits (ahead start number + i)) →
    (board : Scoreboard) → ReadsScoreboard board size start bits → AfterRequestMark size number board number bits2
request_begins start bits size number bits2 fits some near beyond moves board reads =
    let first : ℕ = first_number size board in
    let n : ℕ = first + ahead start number in
    let begins = reads.begins in
    let residue = reads.residue in
    let end2 : ℕ = n + size - 1 in
    let first2 : end2 + 1 - size ≡ n = omega arith in
    record {
      next = record { came = board.came; end = end2 };
      step = inl (record { n = n; is = unwrapped board size start bits number reads fits near; beyond = omega arith; same = refl; ends = omega arith });
      reads = record {
        begins = omega arith;
        residue = omega arith;
        numbers = λ i.
            let at : end2 + 1 - size + i ≡ first + (ahead start number + i) = omega arith in
            ap board.came at ∙ reads.numbers (ahead start number + i) ∙ sym (ap (λ x. x == 1) (moves i));
      };
    }

pub blank_reads : (start size : ℕ) → 1 ≤ size → start < 4096 → ReadsScoreboard (blank start size) size start 0
blank_reads start size some fits =
    record {
      begins = omega arith;
      residue = omega arith;
      numbers = λ i. sym (ap (λ x. x == 1) (bit_at-zero i));
    }

pub have_scoreboards : HaveScoreboards
have_scoreboards size start bits some fits =
    record {
      begins = omega arith;
      residue = omega arith;
      numbers = λ i.
          let at : start + size - 1 + 1 - size + i ≡ start + i = omega arith in
          let past : nat_lt (start + i) start ≡ false = grind (arith, nat_tests) in
          let back : start + i - start ≡ i = omega arith in
          ap (λ k. cond (nat_lt k start) false (bit_at bits (k - start) == 1)) at
          ∙ ap (λ b. cond b false (bit_at bits (start + i - start) == 1)) past ∙ ap (λ k. bit_at bits k == 1) back;
    }
