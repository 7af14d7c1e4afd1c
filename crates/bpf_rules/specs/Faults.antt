-- The numbers of faults.
use Rattle.std.specs.Prelude.{◌≡◌, ◌⊎◌, ℕ, Result, Ok, Err}
use Rattle.bpf_rules.specs.declared.fault.Fault.{Fault}
use Rattle.bpf_rules.specs.declared.fault.Fault.TheVariants.{Unset, WrongOperand, OutsideRegion, Misaligned, NotTested, TooManyFrames, TooManyVisits, StackPointerStored, NoResult, NoMemory}

-- the number of a fault
abbrev pub number_of : Fault → ℕ
number_of Unset = 30
number_of WrongOperand = 31
number_of OutsideRegion = 32
number_of Misaligned = 33
number_of NotTested = 34
number_of TooManyFrames = 35
number_of TooManyVisits = 36
number_of StackPointerStored = 37
number_of NoResult = 38
number_of NoMemory = 40

-- f of an outcome, unless it is a fault
abbrev pub on : {A B : Type 0} → Result A Fault → (A → Result B Fault) → Result B Fault
on (Ok x) f = f x
on (Err e) f = Err e

-- the same, or lack of memory
abbrev pub IsOrNoMemory : {A : Type 0} → Result A Fault → Result A Fault → Type 0
IsOrNoMemory (Ok x) expected = expected ≡ Ok x
IsOrNoMemory (Err e) expected = (e ≡ NoMemory) ⊎ (expected ≡ Err e)
