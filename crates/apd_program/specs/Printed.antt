-- What is written for a text, and the status.
use Rattle.std.specs.Prelude.{ℕ, List, Option}
use Rattle.std.specs.Io.KnownBytes.{Appends}
use Rattle.apd_files.specs.Beginning.{AppendsBeginning}
use Rattle.apd_program.specs.declared.fault.ProgramFault.{ProgramFault}
use Rattle.apd_program.specs.declared.fault.ProgramFault.TheVariants.{NoMemory}

-- the whole text with 0, or a prefix of it with 2
pub data PrintsText (text : List ℕ) (old new : Option (List ℕ)) : ℕ → Type 0 where
  WholeText : Appends old new text → PrintsText text old new 0
  BeginningOfText : AppendsBeginning old new text → PrintsText text old new 2

-- the status of a fault: 3 for lack of memory, otherwise 2
abbrev pub fault_status : ProgramFault → ℕ
fault_status NoMemory = 3
fault_status _ = 2
