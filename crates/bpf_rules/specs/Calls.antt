-- Calls and EXIT on abstract states (RFC 9669 sections 4.3.1, 4.3.2).
use Rattle.std.specs.Prelude.{ℕ, ◌+◌, ◌==◌, nat_lt, if◌then◌else◌, length, slice_set, Result, Ok, Err}
use Rattle.bpf_absnum.specs.Number.{Num, num_full, num_single}
use Rattle.bpf_absnum.specs.Transfer.{num_within}
use Rattle.bpf_interval.specs.Interval.{bounds}
use Rattle.bpf_absval.specs.declared.value.AbsVal.{AbsVal}
use Rattle.bpf_absval.specs.declared.value.AbsVal.TheVariants.{Number, MapReference, Lookup}
use Rattle.bpf_absstate.specs.View.{View, register, without_arguments, called}
use Rattle.bpf_rules.specs.declared.fault.Fault.{Fault}
use Rattle.bpf_rules.specs.declared.fault.Fault.TheVariants as fault
use Rattle.bpf_rules.specs.Faults.{on}
use Rattle.bpf_rules.specs.Operands.{is_unset, number, wrong_two}

-- helper 1: the entry of a map at an index, or 0
abbrev pub looked_up : AbsVal → AbsVal → Result AbsVal Fault
looked_up (MapReference map) (Number index) = Ok (Lookup map)
looked_up a b = Err (wrong_two a b)

-- a helper's result
abbrev pub helped : View → ℕ → Result AbsVal Fault
helped a helper =
    (if helper == 1 then looked_up (register a 1) (register a 2)
    else (if helper == 3 then Ok (Number (num_within (bounds 0 2007)))
    else (if helper == 5 then on (number (register a 1)) (λ x. Ok (Number (num_single 0)))
    else Ok (Number num_full))))

-- after a helper call R0 has its result, and R1 to R5 are unset
abbrev pub answered : View → AbsVal → View
answered a v = record a { pc = a.pc + 1; registers = without_arguments (slice_set a.registers 0 v) }

-- at most 8 call frames
abbrev pub call : View → ℕ → Result View Fault
call a to =
    (if nat_lt (length a.frames) 8 then Ok (called a to (a.pc + 1)) else Err fault.TooManyFrames)

-- EXIT needs a number in R0
abbrev pub exit_number : AbsVal → Result Num Fault
exit_number (Number n) = Ok n
exit_number v = Err (if is_unset v then fault.Unset else fault.NoResult)
