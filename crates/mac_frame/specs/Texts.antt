-- How faults are shown.
use Rattle.std.specs.Prelude.{ℕ, List, codes}
use Rattle.mac_frame.specs.declared.fault.Fault.{Fault}
use Rattle.mac_frame.specs.declared.fault.Fault.TheVariants.{TooShort, WrongVersion, Unsupported, ReservedUse, ElementCut, BodyLength}
use Rattle.mac_frame.specs.declared.fault.FrameFault.{FrameFault}
use Rattle.mac_frame.specs.declared.fault.FrameFault.TheVariants as answers

-- what is wrong with a frame, in words
abbrev pub fault_text : Fault → List ℕ
fault_text TooShort = codes "50: the frame ends within its header"
fault_text WrongVersion = codes "51: the protocol version is not 0"
fault_text Unsupported = codes "52: the type, subtype, category or action is not supported"
fault_text ReservedUse = codes "53: a field holds a reserved value"
fault_text ElementCut = codes "54: an element is cut"
fault_text BodyLength = codes "55: the body has the wrong length"

-- why there is no frame, in words
abbrev pub frame_fault_text : FrameFault → List ℕ
frame_fault_text answers.Memory = codes "out of memory"
frame_fault_text (answers.Fault fault) = fault_text fault
