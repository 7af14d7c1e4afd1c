-- The numbers of the faults.
use Rattle.std.specs.Prelude.{ℕ}
use Rattle.ap_queues.specs.declared.lines.fault.LineFault.{LineFault}
use Rattle.ap_queues.specs.declared.lines.fault.LineFault.TheVariants.{NoMemory, NoPass}

-- the number that is printed for it
abbrev pub number_of : LineFault → ℕ
number_of NoMemory = 40
number_of NoPass = 62
