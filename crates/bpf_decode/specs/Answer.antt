-- What decoding returns if the bytes aren't well-formed code.
use Rattle.std.specs.Prelude.{◌≡◌, ◌≢◌, ℕ, ◌*◌, ◌<◌, ◌≤◌, List, ◌++◌, length, codes, decimal}
use Rattle.bpf_insn.specs.Faults as field
use Rattle.bpf_regions.specs.declared.maps.Shape.{Shape}
use Rattle.bpf_decode.specs.declared.fault.SlotFault.{SlotFault}
use Rattle.bpf_decode.specs.declared.fault.SlotFault.TheVariants as slot
use Rattle.bpf_decode.specs.declared.fault.DecodeFault.{DecodeFault}
use Rattle.bpf_decode.specs.declared.fault.DecodeFault.TheVariants as fault
use Rattle.bpf_decode.specs.Code.{count, IsFirst}

-- the number of a slot's fault
abbrev pub slot_number : SlotFault → ℕ
slot_number (slot.Field e) = field.number_of e
slot_number slot.JumpAstray = 15
slot_number slot.PastEnd = 16
slot_number slot.FrameWritten = 17
slot_number slot.UnknownHelper = 18
slot_number slot.UnknownMap = 19

-- the number of a refusal; 40 is lack of memory
abbrev pub fault_number : DecodeFault → ℕ
fault_number fault.NoMemory = 40
fault_number fault.Length = 1
fault_number fault.Empty = 2
fault_number fault.Long = 3
fault_number (fault.At k e) = slot_number e

-- the slot of a fault; 0 if it is at none
abbrev pub fault_slot : DecodeFault → ℕ
fault_slot (fault.At k e) = k
fault_slot _ = 0

-- a fault as printed: its number and its slot
abbrev pub fault_text : DecodeFault → List ℕ
fault_text fault.NoMemory = codes "out of memory"
fault_text e = codes "fault " ++ decimal (fault_number e) ++ codes " at " ++ decimal (fault_slot e)

-- the first fault is number n at slot k, in code of a permitted length
pub record HasPlace (code : List ℕ) (shapes : List Shape) (k n : ℕ) : Type 0 where
  pub some : 0 < length code
  pub whole : length code ≡ 8 * count code
  pub short : count code ≤ 16384
  pub first : IsFirst code shapes k n

-- The code has this fault. Lack of memory says nothing about it.
abbrev pub Refuses : List ℕ → List Shape → DecodeFault → Type 0
Refuses code shapes fault.NoMemory = Unit {0}
Refuses code shapes fault.Length = length code ≢ 8 * count code
Refuses code shapes fault.Empty = length code ≡ 0
Refuses code shapes fault.Long = (length code ≡ 8 * count code) × (16384 < count code)
Refuses code shapes (fault.At k e) = HasPlace code shapes k (slot_number e)

-- the first fault at a slot, or lack of memory
abbrev pub FindsFirst : List ℕ → List Shape → DecodeFault → Type 0
FindsFirst code shapes fault.NoMemory = Unit {0}
FindsFirst code shapes fault.Length = ⊥
FindsFirst code shapes fault.Empty = ⊥
FindsFirst code shapes fault.Long = ⊥
FindsFirst code shapes (fault.At k e) = IsFirst code shapes k (slot_number e)
