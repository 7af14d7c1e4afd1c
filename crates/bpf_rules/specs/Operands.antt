-- Arithmetic on abstract values (RFC 9669 sections 4.1, 4.2 and 5.4), with the checks of its operands, in this order:
-- that all are set (30), that no lookup result is used untested (34), and their kinds (31).
use Rattle.std.specs.Prelude.{ℕ, ◌+◌, nat_le, Bool, true, false, not, ◌||◌, if◌then◌else◌, Option, Some, None, Result, Ok, Err}
use Rattle.bpf_insn.specs.declared.insn.AluOp.{AluOp}
use Rattle.bpf_insn.specs.declared.insn.AluOp.TheVariants.{Add, Sub, Mov}
use Rattle.bpf_insn.specs.declared.insn.Source.{Source}
use Rattle.bpf_insn.specs.declared.insn.Source.TheVariants as source
use Rattle.bpf_insn.specs.declared.insn.Wide.{Wide}
use Rattle.bpf_insn.specs.declared.insn.Wide.TheVariants as wide
use Rattle.bpf_words.specs.Word.{word_add, word_sub, word_of}
use Rattle.bpf_absnum.specs.Number.{Num, num_single, is_single}
use Rattle.bpf_absnum.specs.Transfer.{num_alu}
use Rattle.bpf_absval.specs.declared.value.AbsRegion.TheVariants as place
use Rattle.bpf_absval.specs.declared.value.AbsVal.{AbsVal}
use Rattle.bpf_absval.specs.declared.value.AbsVal.TheVariants.{Unset, Number, Frame, Pointer, MapReference, Lookup}
use Rattle.bpf_absval.specs.declared.value.Label.{Label}
use Rattle.bpf_absstate.specs.View.{View, register}
use Rattle.bpf_rules.specs.declared.fault.Fault.{Fault}
use Rattle.bpf_rules.specs.declared.fault.Fault.TheVariants as fault

-- the value may be unset
abbrev pub is_unset : AbsVal → Bool
is_unset Unset = true
is_unset v = false

-- a lookup result that was not tested for null
abbrev pub is_untested : AbsVal → Bool
is_untested (Lookup map) = true
is_untested v = false

-- the fault of a value of the wrong kind
abbrev pub wrong : AbsVal → Fault
wrong a =
    (if is_unset a then fault.Unset
    else (if is_untested a then fault.NotTested else fault.WrongOperand))

-- the fault of two operands of wrong kinds
abbrev pub wrong_two : AbsVal → AbsVal → Fault
wrong_two a b =
    (if is_unset a || is_unset b then fault.Unset
    else (if is_untested a || is_untested b then fault.NotTested else fault.WrongOperand))

-- a value that must be a number
abbrev pub number : AbsVal → Result Num Fault
number (Number n) = Ok n
number v = Err (wrong v)

-- an immediate is sign-extended
abbrev pub source_value : View → Source → AbsVal
source_value a (source.Imm i) = Number (num_single (word_of i))
source_value a (source.Reg r) = register a r

-- both operands must be numbers
abbrev pub numbers : Bool → AluOp → AbsVal → AbsVal → Result AbsVal Fault
numbers wide op (Number x) (Number y) = Ok (Number (num_alu wide op x y))
numbers wide op a b = Err (wrong_two a b)

-- A labelled pointer keeps its label if its distance stays within 0 and 2400. Distances are words: one before the
-- label's position is far above 2400.
abbrev pub within_reach : ℕ → ℕ → Option Label
within_reach label distance =
    (if nat_le distance 2400 then Some (record { label = label; distance = distance }) else None)

-- a pointer moves by c, and so does its distance from the label's position
abbrev pub label_moved : (ℕ → ℕ → ℕ) → ℕ → Option Label → Option Label
label_moved f c None = None
label_moved f c (Some l) = within_reach l.label (f l.distance c)

-- A number with one word moves a frame pointer; any other gives it a label of its own, the slot's number plus 1.
abbrev pub label_after : ℕ → (ℕ → ℕ → ℕ) → Num → Option Label → Option Label
label_after pc f n l =
    (if is_single n then label_moved f n.range.low l
    else Some (record { label = pc + 1; distance = 0 }))

-- a number plus a pointer, in either order, is a pointer into the same region
abbrev pub sum : ℕ → AbsVal → AbsVal → Result AbsVal Fault
sum pc (Number x) (Number y) = Ok (Number (num_alu true Add x y))
sum pc (Number x) (Frame offset l) =
    Ok (Frame (num_alu true Add offset x) (label_after pc word_add x l))
sum pc (Frame offset l) (Number y) =
    Ok (Frame (num_alu true Add offset y) (label_after pc word_add y l))
sum pc (Number x) (Pointer region offset) = Ok (Pointer region (num_alu true Add offset x))
sum pc (Pointer region offset) (Number y) = Ok (Pointer region (num_alu true Add offset y))
sum pc a b = Err (wrong_two a b)

-- a number may be subtracted from a pointer, and no pointer from anything
abbrev pub difference : ℕ → AbsVal → AbsVal → Result AbsVal Fault
difference pc (Number x) (Number y) = Ok (Number (num_alu true Sub x y))
difference pc (Frame offset l) (Number y) =
    Ok (Frame (num_alu true Sub offset y) (label_after pc word_sub y l))
difference pc (Pointer region offset) (Number y) = Ok (Pointer region (num_alu true Sub offset y))
difference pc a b = Err (wrong_two a b)

-- MOV in ALU64 moves any set value, even a lookup result; in ALU the low half of a number
abbrev pub moved : Bool → AbsVal → Result AbsVal Fault
moved wide Unset = Err fault.Unset
moved wide (Number n) = Ok (Number (num_alu wide Mov n n))
moved wide v = (if wide then Ok v else Err (wrong v))

-- for pointers only ADD, SUB and MOV in ALU64 are defined
abbrev pub alu : ℕ → AluOp → Bool → AbsVal → AbsVal → Result AbsVal Fault
alu pc Mov wide a b = moved wide b
alu pc Add wide a b = (if wide then sum pc a b else numbers wide Add a b)
alu pc Sub wide a b = (if wide then difference pc a b else numbers wide Sub a b)
alu pc op wide a b = numbers wide op a b

-- whether the operands are a frame pointer and a number that isn't one word
abbrev pub is_variable : AbsVal → AbsVal → Bool
is_variable (Frame offset l) (Number n) = not (is_single n)
is_variable (Number n) (Frame offset l) = not (is_single n)
is_variable a b = false

-- whether an operation gives a frame pointer a label of its own
abbrev pub makes_label : AluOp → AbsVal → AbsVal → Bool
makes_label Add a b = is_variable a b
makes_label Sub a b = is_variable a b
makes_label op a b = false

-- the value of a wide load; a map's first value is its entry 0
abbrev pub wide_value : Wide → AbsVal
wide_value (wide.Number n) = Number (num_single n)
wide_value (wide.Map map) = MapReference map
wide_value (wide.MapValue map offset) = Pointer (place.Entry map) (num_single offset)
