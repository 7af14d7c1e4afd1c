-- Bytes that aren't a frame.
use Rattle.std.specs.Prelude.{◌≡◌, List, [], ◌∷◌}
use Rattle.mac_frame.specs.declared.fault.FrameFault.{FrameFault}
use Rattle.mac_frame.specs.declared.fault.FrameFault.TheVariants as answers
use Rattle.mac_frame.specs.Faults.{number_of_fault}
use Rattle.ap_model.specs.declared.event.Out.{Out}
use Rattle.ap_model.specs.declared.event.Out.TheVariants.{Note}

-- the outputs of unread bytes: the note of the fault; none are possible if memory ran out, which is a refusal
abbrev pub IsNoted : FrameFault → List Out → Type 0
IsNoted answers.Memory outs = ⊥
IsNoted (answers.Fault fault) outs = outs ≡ Note (number_of_fault fault) ∷ []
