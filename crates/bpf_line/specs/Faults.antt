-- The numbers of a line's faults.
use Rattle.std.specs.Prelude.{ℕ}
use Rattle.bpf_line.specs.declared.fault.LineFault.{LineFault}
use Rattle.bpf_line.specs.declared.fault.LineFault.TheVariants.{Grammar, Range}

-- the number of a fault
abbrev pub number_of : LineFault → ℕ
number_of Grammar = 20
number_of Range = 21
