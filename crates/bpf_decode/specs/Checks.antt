-- The lowest of an instruction's faults 15 to 19.
use Rattle.std.specs.Prelude.{Bool, Option, Some, None, if◌then◌else◌}
use Rattle.bpf_decode.specs.declared.fault.SlotFault.{SlotFault}
use Rattle.bpf_decode.specs.declared.fault.SlotFault.TheVariants as fault

-- the fault with the lowest number of those found
abbrev pub lowest_fault : Bool → Bool → Bool → Bool → Bool → Option SlotFault
lowest_fault astray past frame helper map =
    (if astray then Some fault.JumpAstray
    else (if past then Some fault.PastEnd
    else (if frame then Some fault.FrameWritten
    else (if helper then Some fault.UnknownHelper
    else (if map then Some fault.UnknownMap
    else None)))))
