use Rattle.std.proofs.Common.{◌≡◌, ℕ, ◌≤◌, ◌-◌, ◌/◌, ◌^◌, ap, ◌∙◌, arith}
use Rattle.std.proofs.lemmas.Nat.Bits.{ones_shr}
use Rattle.bpf_interval.specs.Interval.{bounds, bounds_of_bits}
use Rattle.bpf_interval.proofs.Interval.of_bits.Goals as goal

width_is : (n : ℕ) → n ≤ 64 → bounds 0 ((2 ^ 64 - 1) / 2 ^ (64 - n)) ≡ bounds_of_bits n
unfolding bounds_of_bits
width_is n h =
    let e : 64 - (64 - n) ≡ n = omega arith in
    ap (bounds 0) (ones_shr 64 (64 - n) (omega arith) ∙ ap (λ k. 2 ^ k - 1) e)

pub returns : goal.returns
returns c = width_is c.args.bits c.requires.within
