-- The lines of the slots so far are appended.
use Rattle.std.proofs.Common.{◌≡◌, ◌++◌}
use Rattle.std.specs.String.{string_bytes}
use Rattle.apd_eval.specs.Profile.{slot_lines}
use Rattle.apd_eval.proofs.profile.append_slots.Given as goal

abbrev pub invariant-loop-slot : goal.invariant-loop-slot
invariant-loop-slot l = string_bytes l.text ≡ string_bytes l.initial.text ++ slot_lines l.json l.profile.program.now.slots l.profile.counts.now l.slot
