-- The front of the block is collected.
use Rattle.std.proofs.Common.{take}
use Rattle.apd_files.specs.Reading.{Adds}
use Rattle.apd_files.proofs.inputs.digits.add_block.Given as goal

abbrev pub invariant-loop-at : goal.invariant-loop-at
invariant-loop-at l = Adds l.most (take l.at l.block) l.initial.digits.items l.digits.items
