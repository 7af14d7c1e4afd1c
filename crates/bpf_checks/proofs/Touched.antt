-- The bytes that an access touches.
use Rattle.std.proofs.Common.{◌≡◌, ℕ, ◌+◌, ◌-◌, ◌*◌, ◌/◌, ◌%◌, ◌^◌, ◌<◌, ◌≤◌, inl, inr, sym, ap, arith}
use Rattle.std.proofs.Math.Nat.{mul-le-mul_right}
use Rattle.std.proofs.Math.Pow.{pow_mono}
use Rattle.std.proofs.lemmas.Nat.{pow-add}
use Rattle.std.proofs.lemmas.Bool.{cases_lt}
use Rattle.std.specs.Int.Bits.{and_zero_r}
use Rattle.std.specs.Prelude.{◌==◌, ◌≢◌, if◌then◌else◌, Some, None}
use Rattle.bpf_absval.specs.declared.slot.AbsSlot.{AbsSlot}
use Rattle.bpf_absval.specs.Inclusion.{bytes_set}
use Rattle.bpf_rules.specs.declared.fault.Fault.TheVariants as fault
use Rattle.bpf_rules.specs.Memory.{touched, bytes_fault, is_stored}

ones_small : (n : ℕ) → n ≤ 8 → 2 ^ n ≤ 256
ones_small n le = pow_mono {j = 8} le

place_small : (r : ℕ) → r ≤ 7 → 2 ^ r ≤ 128
place_small r le = pow_mono {j = 7} le

product_small : (a b : ℕ) → a ≤ 255 → b ≤ 128 → a * b < 65536
product_small a b h g =
    let x : a * b ≤ 255 * b = mul-le-mul_right b h in
    omega (arith, x, g)

pub touched_fits : (at n : ℕ) → n ≤ 8 → touched at n < 65536
touched_fits at n le =
    let a = ones_small n le in let b = place_small (at % 8) (omega arith) in
    product_small (2 ^ n - 1) (2 ^ (at % 8)) (omega (arith, a)) b

less_product : (k m b : ℕ) → k + 1 ≤ m → 1 ≤ b → k * b < m * b
less_product k m b h some =
    let x : (k + 1) * b ≤ m * b = mul-le-mul_right b h in
    omega (arith, x, some)

-- if bytes of the next slot are touched, the stack has that slot
pub touched_one : (at n : ℕ) → n ≤ 8 → at + n ≤ 512 → touched at n / 256 ≢ 0 → at / 8 + 1 < 64
touched_one at n le inside some = elim (cases_lt (at / 8 + 1) 64) [
  | inl less ↦ less
  | inr past ↦ absurd (some (none_behind at n (omega (arith, inside, past))))
]
  where
    none_behind : (at n : ℕ) → at % 8 + n ≤ 8 → touched at n / 256 ≡ 0
    none_behind at n le =
        let one : 1 ≤ 2 ^ n = pow_mono {i = 0} {j = n} (omega arith) in
        let some : 1 ≤ 2 ^ (at % 8) = pow_mono {i = 0} {j = at % 8} (omega arith) in
        let a : (2 ^ n - 1) * 2 ^ (at % 8) < 2 ^ n * 2 ^ (at % 8) = less_product (2 ^ n - 1) (2 ^ n) (2 ^ (at % 8)) (omega (arith, one)) some in
        let b : 2 ^ n * 2 ^ (at % 8) ≡ 2 ^ (n + at % 8) = sym (pow-add 2 n (at % 8)) in
        let c : 2 ^ (n + at % 8) ≤ 256 = pow_mono {j = 8} (omega (arith, le)) in
        omega (arith, a, b, c)

-- reading no bytes is no fault
pub none_read : (s : AbsSlot) → bytes_fault s 0 ≡ None
none_read s = ap (λ b. if b then None else (if is_stored s then Some fault.WrongOperand else Some fault.Unset)) (ap (λ x. x == 0) (and_zero_r (bytes_set s)))
