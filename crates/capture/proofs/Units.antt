-- A second has some units of time.
use Rattle.std.proofs.Common.{◌≡◌, ◌<◌, ◌∙◌, ◌^◌, ◌-◌, ℕ, zero, suc, nat_lt, true, false, Bool, Option, Some, None, option_map, sym, ap, subst, arith, if◌then◌else◌}
use Rattle.std.specs.Option.{MatchOption}
use Rattle.std.specs.Int.NonZero.{non_zero_u64_get}
use Rattle.std.specs.declared.num.NonZeroU64.{NonZeroU64}
use Rattle.std.proofs.lemmas.Nat.{pow_pos}
use Rattle.std.proofs.lemmas.Option.{same_Some}
use Rattle.capture.specs.Interfaces.{units_of, counted_units}

ten : (n : ℕ) → 0 < 10 ^ n
ten zero = omega arith
ten (suc n) = omega (arith, ten n)

either : (b : Bool) (m n : ℕ) → 0 < m → 0 < n → 0 < (if b then m else n)
either true m n one other = one
either false m n one other = other

some : (resolution : ℕ) → 0 < units_of resolution
some resolution = either (nat_lt resolution 128) (10 ^ resolution) (2 ^ (resolution - 128)) (ten resolution) (pow_pos (resolution - 128))

counted : (b : Bool) (n units : ℕ) → 0 < n → Some units ≡ (if b then Some n else None) → 0 < units
counted true n units positive is = subst (λ m. 0 < m) (sym (same_Some units n is)) positive
counted false n units positive is = cc

kept : (units : ℕ) (r : Option NonZeroU64) → 0 < units → MatchOption r (units ≡ 0) (λ x. non_zero_u64_get x ≡ units) → option_map non_zero_u64_get r ≡ Some units
kept units None positive none = absurd (omega (arith, positive, none))
kept units (Some x) positive is = ap Some is

pub nonzero : (resolution units : ℕ) (r : Option NonZeroU64) → Some units ≡ counted_units resolution → MatchOption r (units ≡ 0) (λ x. non_zero_u64_get x ≡ units)
    → option_map non_zero_u64_get r ≡ counted_units resolution
nonzero resolution units r is made =
    kept units r (counted (nat_lt (units_of resolution) (2 ^ 64)) (units_of resolution) units (some resolution) is) made ∙ is
