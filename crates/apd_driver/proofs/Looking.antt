-- What a look at a clock tells.
use Rattle.std.proofs.Common.{◌≡◌, ◌+◌, ℕ, Option, Some, None, IfSome, refl}
use Rattle.std.specs.Time.{instant_nanos}
use Rattle.apd_driver.specs.Clocks.{since, since_if}
use Rattle.apd_driver.specs.Units.{Begins, Passes, Tells, Unread, tick_at}
use Rattle.apd_driver.specs.declared.source.passing.Passing.{Passing}

-- it couldn't be read
pub unread : (p : Option Passing) → Passes (since_if p) (since_if p) 0
unread p = Unread refl refl

-- its first value
pub begins : (p : Option Passing) → IfSome p (λ q. q.told ≡ 0) → Passes None (since_if p) 0
begins None none = Unread refl refl
begins (Some p) none = Begins (instant_nanos p.begun) refl refl (λ i. Some (record { begun = instant_nanos p.begun; told = none i }))

-- another value
pub tells : (p q : Passing) (now units : ℕ) → units ≡ tick_at (instant_nanos p.begun) p.told now → q.told ≡ p.told + units → q.begun ≡ p.begun
    → Passes (since_if (Some p)) (since_if (Some q)) units
tells p q now units is told begun = Tells (since p) now refl is (λ i. Some (record { begun = instant_nanos (begun i); told = told i }))
