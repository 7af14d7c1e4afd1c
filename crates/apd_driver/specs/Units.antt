-- Time that passes by a clock, whose values are in nanoseconds.
use Rattle.std.specs.Prelude.{◌≡◌, ℕ, ◌+◌, ◌-◌, ◌/◌, min, Option, Some, None}

-- the nanoseconds of a unit, which has 1024 microseconds
abbrev pub unit : ℕ
unit = 1024000

-- the most units of a tick
abbrev pub most_units : ℕ
most_units = 4294967295

-- the whole units from one value of the clock to another; none if it went back
abbrev pub units_between : ℕ → ℕ → ℕ
units_between begun now = (now - begun) / unit

-- the tick after so many units were told: those that weren't, or the most
abbrev pub tick_at : ℕ → ℕ → ℕ → ℕ
tick_at begun told now = min (units_between begun now - told) most_units

-- a clock's first value, and how many units were told since
pub record Since : Type 0 where
  pub begun : ℕ
  pub told : ℕ

-- What is told of a clock that was read, once, or not at all: nothing, if it couldn't be read; nothing at its first
-- value; and then, at any value, the tick of what wasn't told.
pub data Passes (old new : Option Since) (units : ℕ) : Type 0 where
  Unread : units ≡ 0 → new ≡ old → Passes old new units
  Begins : (first : ℕ) → old ≡ None → units ≡ 0 → new ≡ Some (record { begun = first; told = 0 }) → Passes old new units
  Tells : (since : Since) (now : ℕ) → old ≡ Some since → units ≡ tick_at since.begun since.told now
      → new ≡ Some (record { begun = since.begun; told = since.told + units }) → Passes old new units
