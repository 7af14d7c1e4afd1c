-- Code as slots, its faults, and which code is well formed.
use Rattle.std.specs.Prelude.{◌≡◌, ℕ, zero, suc, ◌+◌, ◌*◌, ◌/◌, ◌<◌, ◌≤◌, ◌⊎◌, ℤ, Bool, true, false, not, ◌&&◌, nat_eq, List, length, take, drop, slice_index, Option, Some, None, nat_lt, if◌then◌else◌}
use Rattle.bpf_insn.specs.declared.insn.Insn.{Insn}
use Rattle.bpf_insn.specs.declared.fault.FieldFault.{FieldFault}
use Rattle.bpf_insn.specs.Slot.{fields_at, half_at}
use Rattle.bpf_insn.specs.Faults.{HasFault, number_of}
use Rattle.bpf_insn.specs.Spelled.{Spelled}
use Rattle.bpf_regions.specs.declared.maps.Shape.{Shape}
use Rattle.bpf_decode.specs.Flow.{jump_of, IsJump, size_of, ends, written, KnowsHelper, KnowsMap}

-- how many slots of 8 bytes the code has
abbrev pub count : List ℕ → ℕ
count code = length code / 8

-- the eight bytes of slot k
abbrev pub slot : List ℕ → ℕ → List ℕ
slot code k = take 8 (drop (8 * k) code)

-- slot k, if the code has it
abbrev pub slot_if : List ℕ → ℕ → Option (List ℕ)
slot_if code k = (if nat_lt k (count code) then Some (slot code k) else None)

-- slot k has the opcode of a wide load
abbrev pub is_wide : List ℕ → ℕ → Bool
is_wide code k = nat_eq (slice_index (slot code k) 0) 0x18

-- Slot 0 starts an instruction; the slot after a wide load is its second half; every other slot starts one.
unfoldable pub starts : List ℕ → ℕ → Bool
starts code zero = true
starts code (suc k) = not (starts code k && is_wide code k)

-- the code has a slot k, and an instruction starts there
abbrev pub Starts : List ℕ → ℕ → Type 0
Starts code k = (k < count code) × (starts code k ≡ true)

-- slot k spells the instruction i, with the next slot if i is a wide load
abbrev pub At : List ℕ → ℕ → Insn → Type 0
At code k i = Spelled (slot code k) (slot_if code (k + 1)) i

-- a jump by x at slot k leads to a slot that starts an instruction
abbrev pub Leads : List ℕ → ℕ → ℤ → Type 0
Leads code k x = (t : ℕ) × IsJump k x t × Starts code t

-- the jump of the instruction at slot k, if any, does so
abbrev pub JumpsInside : List ℕ → ℕ → Option ℤ → Type 0
JumpsInside code k None = Unit {0}
JumpsInside code k (Some x) = Leads code k x

-- the faults of the instruction at slot k, by their numbers
pub data RuleFault (code : List ℕ) (shapes : List Shape) (k : ℕ) (i : Insn) : ℕ → Type 0 where
  Astray : (JumpsInside code k (jump_of i) → ⊥) → RuleFault code shapes k i 15
  PastEnd : k + size_of i ≡ count code → ends i ≡ false → RuleFault code shapes k i 16
  FramePointer : written i ≡ Some 10 → RuleFault code shapes k i 17
  Helper : (KnowsHelper i → ⊥) → RuleFault code shapes k i 18
  UnknownMap : (KnowsMap shapes i → ⊥) → RuleFault code shapes k i 19

-- the faults of the code, each by its slot and number
pub data FaultAt (code : List ℕ) (shapes : List Shape) (k : ℕ) : ℕ → Type 0 where
  InFields : (e : FieldFault) → Starts code k → HasFault (fields_at (slot code k))
      (half_at (slot_if code (k + 1))) e → FaultAt code shapes k (number_of e)
  InRules : (i : Insn) (n : ℕ) → Starts code k → At code k i →
      RuleFault code shapes k i n → FaultAt code shapes k n

-- the first fault: the lowest slot, then the lowest number
pub record IsFirst (code : List ℕ) (shapes : List Shape) (k n : ℕ) : Type 0 where
  pub is_fault : FaultAt code shapes k n
  pub lowest : (j m : ℕ) → FaultAt code shapes j m → (k < j) ⊎ ((k ≡ j) × (n ≤ m))

-- the code is 1 to 16384 whole slots without a fault
pub record WellFormed (code : List ℕ) (shapes : List Shape) : Type 0 where
  pub some : 0 < length code
  pub whole : length code ≡ 8 * count code
  pub short : count code ≤ 16384
  pub faultless : (k n : ℕ) → FaultAt code shapes k n → ⊥

-- the lowest fault at one slot
pub record IsLowest (code : List ℕ) (shapes : List Shape) (k n : ℕ) : Type 0 where
  pub is_fault : FaultAt code shapes k n
  pub lowest : (m : ℕ) → FaultAt code shapes k m → n ≤ m
