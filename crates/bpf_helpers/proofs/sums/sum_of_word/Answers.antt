use Rattle.std.proofs.Common.{◌≡◌, ℕ, ◌%◌, sum, ap, ◌∙◌, bit_and, arith}
use Rattle.std.proofs.lemmas.Nat.{and_mask}
use Rattle.bpf_helpers.proofs.sums.sum_of_word.Goals as goal

-- the low half of a number mod 2^64 is the number mod 2^32
low_half : (n m : ℕ) → m ≡ n % 18446744073709551616 → bit_and m 4294967295 ≡ n % 4294967296
low_half n m is = and_mask m 32 ∙ (ap (λ (k : ℕ). k % 4294967296) is ∙ omega arith)

pub returns-in-Four : goal.returns-in-Four
returns-in-Four c =
    let given = c.wide_sum-total.ensures.is in
    record { is = (given.0, given.1, rw (c.in-Four.is) (low_half (sum given.0) c.wide_sum-total.result given.2)) }
