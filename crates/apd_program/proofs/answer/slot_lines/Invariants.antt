-- The lines so far and those of the rest are those of the code.
use Rattle.std.proofs.Common.{◌≡◌, ◌/◌, ◌++◌, length, string_bytes}
use Rattle.apd_program.specs.Slots.{slot_lines}
use Rattle.apd_program.proofs.answer.slot_lines.Given as goal

abbrev pub invariant-loop-rest : goal.invariant-loop-rest
invariant-loop-rest l = string_bytes l.text ++ slot_lines (length l.rest / 8) l.rest ≡ slot_lines (length l.code / 8) l.code

abbrev pub decreases-loop-rest : goal.decreases-loop-rest
decreases-loop-rest l = length l.rest
