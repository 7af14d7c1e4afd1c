-- Bits of a field, counted from 0, the lowest.
use Rattle.std.specs.Prelude.{ℕ, ◌/◌, ◌%◌, ◌^◌, Bool, true, false}

-- the number of `count` bits from bit `low` on
abbrev pub bits : ℕ → ℕ → ℕ → ℕ
bits field low count = field / 2 ^ low % 2 ^ count

-- the number of one bit
abbrev pub bit_of : Bool → ℕ
bit_of false = 0
bit_of true = 1
