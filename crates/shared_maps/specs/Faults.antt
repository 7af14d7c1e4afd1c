-- The numbers of the faults.
use Rattle.std.specs.Prelude.{ℕ, ◌≤◌}
use Rattle.shared_maps.specs.declared.fault.MapFault.{MapFault}
use Rattle.shared_maps.specs.declared.fault.MapFault.TheVariants.{NoMemory, NoSeat}

-- the number printed for a fault
abbrev pub number_of : MapFault → ℕ
number_of NoMemory = 40
number_of NoSeat = 62

-- how many seats a table can have
pub record AreSeats (seats : ℕ) : Type 0 where
  pub some : 1 ≤ seats
  pub few : seats ≤ 16
