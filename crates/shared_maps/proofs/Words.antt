-- A number is shifted left in its word.
use Rattle.std.proofs.Common.{◌≡◌, ℕ, refl, eqb, eq-eqb, ne_eqb, ◌+◌, ◌*◌, ◌/◌, ◌%◌, ◌^◌, ◌<◌, ◌≤◌, cond, Bool, bit_and, bit_or, bit_xor, sym, ap, ◌∙◌, subst, arith}
use Rattle.std.proofs.Math.Nat.{mul-div_cancel, lt_of_mul-lt-mul_left, eq_of_mul-eq-mul_right, mul_comm, mul-mod_left, add-mod, div-lt_iff_lt-mul}
use Rattle.std.proofs.Math.Arith.{mod-mul}
use Rattle.std.proofs.lemmas.Nat.{pow-add, pow_pos, and_block, or_block, xor_block}
use mathlib.Core.Logic.{dite}
use native.Mathlib.Decide.{ℕ_discrete}
use prog.Atomic.{either}
use Rattle.bpf_regions.specs.declared.maps.WordWidth.{WordWidth}
use Rattle.bpf_regions.specs.declared.maps.WordWidth.TheVariants.{Four, Eight}
use Rattle.bpf_regions.specs.Maps.{bytes_of}
use Rattle.shared_maps.specs.Kept.{shift_of}

-- a number and its shift fill the word
pub whole : (width : WordWidth) → 8 * bytes_of width + shift_of width ≡ 64
whole Four = refl
whole Eight = refl

pub some_bytes : (width : WordWidth) → 1 ≤ bytes_of width
some_bytes Four = omega arith
some_bytes Eight = omega arith

pub wide : (w k : ℕ) → 8 * w + k ≡ 64 → 2 ^ (8 * w) * 2 ^ k ≡ 18446744073709551616
wide w k is = sym (pow-add 2 (8 * w) k) ∙ ap (λ (i : ℕ). 2 ^ i) is

pub below : (n m k : ℕ) → m * 2 ^ k ≡ 18446744073709551616 → n * 2 ^ k < 18446744073709551616 → n < m
below n m k is h = let h' : n * 2 ^ k < m * 2 ^ k = subst (λ (z : ℕ). n * 2 ^ k < z) (sym is) h in
    lt_of_mul-lt-mul_left (2 ^ k) (subst (λ (z : ℕ). z < 2 ^ k * m) (mul_comm n (2 ^ k)) (subst (λ (z : ℕ). n * 2 ^ k < z) (mul_comm m (2 ^ k)) h'))

-- a shift left drops the upper bits
pub shifted : (x m k : ℕ) → 0 < m → m * 2 ^ k ≡ 18446744073709551616 → (x * 2 ^ k) % 18446744073709551616 ≡ x % m * 2 ^ k
shifted x m k pos is = ap (λ (z : ℕ). (x * 2 ^ k) % z) (sym is) ∙ (mod-mul (x * 2 ^ k) pos (pow_pos k) ∙ ends)
  where
    ends : (x * 2 ^ k / 2 ^ k % m) * 2 ^ k + x * 2 ^ k % 2 ^ k ≡ x % m * 2 ^ k
    ends = ap (λ (z : ℕ). (z % m) * 2 ^ k + x * 2 ^ k % 2 ^ k) (mul-div_cancel x (pow_pos k)) ∙ (ap (λ (z : ℕ). x % m * 2 ^ k + z) (mul-mod_left x (2 ^ k)) ∙ omega arith)

pub shifted_back : (n k : ℕ) → n * 2 ^ k / 2 ^ k ≡ n
shifted_back n k = mul-div_cancel n (pow_pos k)

pub adds : (n x m k : ℕ) → 0 < m → m * 2 ^ k ≡ 18446744073709551616 → (n * 2 ^ k + x % m * 2 ^ k) % 18446744073709551616 ≡ (n + x) % m * 2 ^ k
adds n x m k pos is = ap (λ (z : ℕ). z % 18446744073709551616) (distr n (x % m) (2 ^ k)) ∙ (shifted (n + x % m) m k pos is ∙ ap (λ (z : ℕ). z * 2 ^ k) (add-mod n (x % m) m ∙ (ap (λ (z : ℕ). (n % m + z) % m) (mod_again x m) ∙ sym (add-mod n x m))))
  where
    distr : (a b u : ℕ) → a * u + b * u ≡ (a + b) * u
    distr a b u = omega arith

    mod_again : (a b : ℕ) → a % b % b ≡ a % b
    mod_again a b = grind arith

pub ors : (n x k : ℕ) → bit_or (n * 2 ^ k) (x * 2 ^ k) ≡ bit_or n x * 2 ^ k
ors n x k = let h = or_block k n x 0 0 (pow_pos k) (pow_pos k) in ap (λ (z : ℕ). bit_or z (x * 2 ^ k)) (plain (n * 2 ^ k)) ∙ (ap (λ (z : ℕ). bit_or (n * 2 ^ k + 0) z) (plain (x * 2 ^ k)) ∙ (h ∙ sym (plain (bit_or n x * 2 ^ k))))
  where
    plain : (a : ℕ) → a ≡ a + 0
    plain a = omega arith

pub ands : (n x k : ℕ) → bit_and (n * 2 ^ k) (x * 2 ^ k) ≡ bit_and n x * 2 ^ k
ands n x k = let h = and_block k n x 0 0 (pow_pos k) (pow_pos k) in ap (λ (z : ℕ). bit_and z (x * 2 ^ k)) (plain (n * 2 ^ k)) ∙ (ap (λ (z : ℕ). bit_and (n * 2 ^ k + 0) z) (plain (x * 2 ^ k)) ∙ (h ∙ sym (plain (bit_and n x * 2 ^ k))))
  where
    plain : (a : ℕ) → a ≡ a + 0
    plain a = omega arith

pub xors : (n x k : ℕ) → bit_xor (n * 2 ^ k) (x * 2 ^ k) ≡ bit_xor n x * 2 ^ k
xors n x k = let h = xor_block k n x 0 0 (pow_pos k) (pow_pos k) in ap (λ (z : ℕ). bit_xor z (x * 2 ^ k)) (plain (n * 2 ^ k)) ∙ (ap (λ (z : ℕ). bit_xor (n * 2 ^ k + 0) z) (plain (x * 2 ^ k)) ∙ (h ∙ sym (plain (bit_xor n x * 2 ^ k))))
  where
    plain : (a : ℕ) → a ≡ a + 0
    plain a = omega arith

pub exchanges : (n x y k : ℕ) → either (eqb (n * 2 ^ k) (x * 2 ^ k)) (y * 2 ^ k) (n * 2 ^ k) ≡ cond (eqb n x) y n * 2 ^ k
exchanges n x y k = dite (ℕ_discrete n x)
    (λ e. ap (λ (b : Bool). either b (y * 2 ^ k) (n * 2 ^ k)) (eq-eqb _ _ (ap (λ (z : ℕ). z * 2 ^ k) e)) ∙ ap (λ (b : Bool). cond b y n * 2 ^ k) (sym (eq-eqb n x e)))
    (λ ne. ap (λ (b : Bool). either b (y * 2 ^ k) (n * 2 ^ k)) (ne_eqb _ _ (λ e. ne (eq_of_mul-eq-mul_right (2 ^ k) (pow_pos k) n x e))) ∙ ap (λ (b : Bool). cond b y n * 2 ^ k) (sym (ne_eqb n x ne)))

-- what each operation's step does to a word
module _ (w k : ℕ) (is : 8 * w + k ≡ 64) where
  abbrev M : ℕ
  M = 2 ^ (8 * w)

  pub put_in : (x : ℕ) → (x * 2 ^ k) % 18446744073709551616 ≡ x % M * 2 ^ k
  put_in x = shifted x M k (pow_pos (8 * w)) (wide w k is)

  pub changes_store : (x n : ℕ) → (x * 2 ^ k) % 18446744073709551616 ≡ x % M * 2 ^ k
  changes_store x n = put_in x

  pub changes_add : (x n : ℕ) → (n * 2 ^ k + (x * 2 ^ k) % 18446744073709551616) % 18446744073709551616 ≡ (n + x) % M * 2 ^ k
  changes_add x n = ap (λ (z : ℕ). (n * 2 ^ k + z) % 18446744073709551616) (put_in x) ∙ adds n x M k (pow_pos (8 * w)) (wide w k is)

  pub changes_or : (x n : ℕ) → bit_or (n * 2 ^ k) ((x * 2 ^ k) % 18446744073709551616) ≡ bit_or n (x % M) * 2 ^ k
  changes_or x n = ap (bit_or (n * 2 ^ k)) (put_in x) ∙ ors n (x % M) k

  pub changes_and : (x n : ℕ) → bit_and (n * 2 ^ k) ((x * 2 ^ k) % 18446744073709551616) ≡ bit_and n (x % M) * 2 ^ k
  changes_and x n = ap (bit_and (n * 2 ^ k)) (put_in x) ∙ ands n (x % M) k

  pub changes_xor : (x n : ℕ) → bit_xor (n * 2 ^ k) ((x * 2 ^ k) % 18446744073709551616) ≡ bit_xor n (x % M) * 2 ^ k
  changes_xor x n = ap (bit_xor (n * 2 ^ k)) (put_in x) ∙ xors n (x % M) k

  pub changes_exchange : (x y n : ℕ) → either (eqb (n * 2 ^ k) ((x * 2 ^ k) % 18446744073709551616)) ((y * 2 ^ k) % 18446744073709551616) (n * 2 ^ k) ≡ cond (eqb n (x % M)) (y % M) n * 2 ^ k
  changes_exchange x y n = ap (λ (z : ℕ). either (eqb (n * 2 ^ k) z) ((y * 2 ^ k) % 18446744073709551616) (n * 2 ^ k)) (put_in x)
      ∙ (ap (λ (z : ℕ). either (eqb (n * 2 ^ k) (x % M * 2 ^ k)) z (n * 2 ^ k)) (put_in y) ∙ exchanges n (x % M) (y % M) k)

-- a word holds no larger number
pub holds_below : (w k n : ℕ) → 8 * w + k ≡ 64 → n < 18446744073709551616 → n / 2 ^ k < 2 ^ (8 * w)
holds_below w k n is h = (div-lt_iff_lt-mul (pow_pos k)).1 (subst (λ (z : ℕ). n < z) (sym (wide w k is)) h)
