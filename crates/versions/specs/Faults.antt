-- The numbers of the refusals.
use Rattle.std.specs.Prelude.{ℕ}
use Rattle.versions.specs.declared.fault.PublishFault.{PublishFault}
use Rattle.versions.specs.declared.fault.PublishFault.TheVariants.{OtherShapes, NoMemory}

-- the printed number of a refusal
abbrev pub number_of : PublishFault → ℕ
number_of OtherShapes = 60
number_of NoMemory = 40
