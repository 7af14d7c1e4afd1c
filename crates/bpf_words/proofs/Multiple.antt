-- Numbers whose lowest bits are 0: multiples of a power of 2.
use Rattle.std.proofs.Common.{ℕ, ◌≡◌, ◌+◌, ◌-◌, ◌*◌, ◌/◌, ◌%◌, ◌^◌, ◌≤◌, sym, ap, ◌∙◌, arith}
use Rattle.std.proofs.lemmas.Nat.{shl-shr, pow-add, shr_split}
use Rattle.std.proofs.Math.Nat.{mod-le, mod_self, mul-mod_left, mul_assoc}
use Rattle.std.proofs.Math.Pow.{mod-mod-pow}

-- x is a multiple of 2 ^ t
abbrev pub IsMultiple : ℕ → ℕ → Type 0
IsMultiple t x = x % 2 ^ t ≡ 0

pub multiple_of : (t x : ℕ) → IsMultiple t x → x / 2 ^ t * 2 ^ t ≡ x
multiple_of t x h = omega (arith, shr_split x t)

swap_factors : (m n p q : ℕ) → (m * p) * (n * q) ≡ (m * n) * (p * q)
swap_factors m n p q = omega arith

pub mul_multiple : (s t x y : ℕ) → IsMultiple s x → IsMultiple t y → IsMultiple (s + t) (x * y)
mul_multiple s t x y h k =
    let whole : x * y ≡ (x / 2 ^ s * (y / 2 ^ t)) * 2 ^ (s + t) =
    sym (λ i. multiple_of s x h i * multiple_of t y k i)
    ∙ swap_factors (x / 2 ^ s) (y / 2 ^ t) (2 ^ s) (2 ^ t)
    ∙ ap (λ p. (x / 2 ^ s * (y / 2 ^ t)) * p) (sym (pow-add 2 s t)) in
    ap (λ n. n % 2 ^ (s + t)) whole ∙ mul-mod_left (x / 2 ^ s * (y / 2 ^ t)) (2 ^ (s + t))

pub less_multiple : (s t x : ℕ) → s ≤ t → IsMultiple t x → IsMultiple s x
less_multiple s t x h k =
    let e : t ≡ (t - s) + s = omega arith in
    sym (mod-mod-pow x (t - s) s) ∙ ap (λ n. x % 2 ^ n % 2 ^ s) (sym e) ∙ ap (λ n. n % 2 ^ s) k ∙ omega (arith, mod-le 0 (2 ^ s))

pub word_multiple : (t x : ℕ) → t ≤ 64 → IsMultiple t x → IsMultiple t (x % 2 ^ 64)
word_multiple t x h k =
    let e : 64 ≡ (64 - t) + t = omega arith in
    ap (λ n. x % 2 ^ n % 2 ^ t) e ∙ mod-mod-pow x (64 - t) t ∙ k

pub power_multiple : (c : ℕ) → IsMultiple c (2 ^ c)
power_multiple c = mod_self (2 ^ c)

pub shr_multiple : (s c x : ℕ) → IsMultiple (s + c) x → IsMultiple s (x / 2 ^ c)
shr_multiple s c x h =
    let whole : x ≡ (x / 2 ^ (s + c) * 2 ^ s) * 2 ^ c =
    sym (multiple_of (s + c) x h) ∙ ap (λ p. x / 2 ^ (s + c) * p) (pow-add 2 s c) ∙ sym (mul_assoc (x / 2 ^ (s + c)) (2 ^ s) (2 ^ c)) in
    ap (λ n. n / 2 ^ c % 2 ^ s) whole ∙ ap (λ n. n % 2 ^ s) (shl-shr (x / 2 ^ (s + c) * 2 ^ s) c) ∙ mul-mod_left (x / 2 ^ (s + c)) (2 ^ s)
