-- What a source has told of its clock.
use Rattle.std.specs.Prelude.{Option, Some, None}
use Rattle.std.specs.Time.{instant_nanos}
use Rattle.apd_driver.specs.Units.{Since}
use Rattle.apd_driver.specs.declared.source.passing.Passing.{Passing}

-- the clock's first value, and the units that were told since
abbrev pub since : Passing → Since
since p = record { begun = instant_nanos p.begun; told = p.told }

-- the same, if the clock could be read
abbrev pub since_if : Option Passing → Option Since
since_if None = None
since_if (Some p) = Some (since p)
