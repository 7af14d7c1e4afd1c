-- Statuses of runs that don't begin.
use Rattle.std.specs.Prelude.{ℕ}
use Rattle.apd_run.specs.declared.runner.fault.RunFault.{RunFault}
use Rattle.apd_run.specs.declared.runner.fault.RunFault.TheVariants.{NoMemory}

-- 3 for lack of memory, otherwise 2
abbrev pub fault_status : RunFault → ℕ
fault_status NoMemory = 3
fault_status _ = 2
