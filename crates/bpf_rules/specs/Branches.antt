-- Conditional jumps on abstract states (RFC 9669 section 4.3): which branches are visited, and how each refines the
-- state.
use Rattle.std.specs.Prelude.{ℕ, ◌+◌, ◌%◌, ◌^◌, ◌==◌, nat_le, Bool, true, false, not, ◌&&◌, if◌then◌else◌, Option, Some, None, Result, Ok, Err}
use Rattle.bpf_insn.specs.declared.insn.Compare.{Compare}
use Rattle.bpf_insn.specs.declared.insn.Compare.TheVariants.{Eq, Ne, Gt, Ge, Lt, Le}
use Rattle.bpf_insn.specs.declared.insn.Source.{Source}
use Rattle.bpf_insn.specs.declared.insn.Source.TheVariants as source
use Rattle.bpf_words.specs.Word.{word_of}
use Rattle.bpf_model.specs.Alu.{is_zero}
use Rattle.bpf_absnum.specs.Number.{Num, num_single, is_single}
use Rattle.bpf_absnum.specs.Branch.{num_branch}
use Rattle.bpf_absval.specs.declared.value.AbsRegion.TheVariants as place
use Rattle.bpf_absval.specs.declared.value.AbsVal.{AbsVal}
use Rattle.bpf_absval.specs.declared.value.AbsVal.TheVariants.{Number, Frame, Pointer, FrameEnd, Lookup}
use Rattle.bpf_absval.specs.declared.value.Label.{Label}
use Rattle.bpf_absstate.specs.View.{View, register, with_register, with_least, with_room}
use Rattle.bpf_rules.specs.declared.fault.Fault.{Fault}
use Rattle.bpf_rules.specs.declared.fault.Fault.TheVariants as fault
use Rattle.bpf_rules.specs.Operands.{wrong_two}

-- the states on the branch not taken and on the one taken, both still at the jump; None if a branch isn't visited
abbrev pub Split : Type 0
Split = Option View × Option View

-- ---- numbers

-- JMP32 compares the low 32 bits of an immediate
abbrev pub compared_value : Bool → View → Source → AbsVal
compared_value wide a (source.Imm i) =
    Number (num_single (if wide then word_of i else word_of i % 2 ^ 32))
compared_value wide a (source.Reg r) = register a r

-- both sides are one register
abbrev pub is_itself : ℕ → Source → Bool
is_itself dst (source.Imm i) = false
is_itself dst (source.Reg r) = r == dst

-- what remains of both operands; a register compared with itself is refined only if it is one word
abbrev pub narrowed : Bool → Compare → Bool → Bool → Num → Num → Option (Num × Num)
narrowed wide compare itself taken x y =
    (if itself && not (is_single x) then Some (x, y) else num_branch wide compare taken x y)

-- refines the source, if it is a register
abbrev pub with_source : View → Source → Num → View
with_source a (source.Imm i) y = a
with_source a (source.Reg r) y = with_register a r (Number y)

-- refines both operands
abbrev pub narrowed_state : View → ℕ → Source → Num → Num → View
narrowed_state a dst s x y = with_source (with_register a dst (Number x)) s y

-- a branch that no pair of operands takes isn't visited
abbrev pub with_operands : View → ℕ → Source → Option (Num × Num) → Option View
with_operands a dst s None = None
with_operands a dst s (Some p) = Some (narrowed_state a dst s p.0 p.1)

-- the branch on which numbers compare so, or don't
abbrev pub number_way : View → Bool → Compare → Bool → ℕ → Source → Num → Num → Option View
number_way a wide compare taken dst s x y =
    with_operands a dst s (narrowed wide compare (is_itself dst s) taken x y)

-- both branches: the jump isn't taken, and it is
abbrev pub number_ways : View → Bool → Compare → ℕ → Source → Num → Num → Split
number_ways a wide compare dst s x y =
    (number_way a wide compare false dst s x y, number_way a wide compare true dst s x y)

-- ---- tests for null: a pointer is never 0

-- for JEQ and JNE with the immediate 0: whether the jump is taken if the register isn't 0
abbrev pub null_test : Compare → Bool → Option Bool
null_test Eq zero = (if zero then Some false else None)
null_test Ne zero = (if zero then Some true else None)
null_test compare zero = None

-- both branches, from that on which the register isn't 0 (taken or not) and that on which it is
abbrev pub by_null : Bool → Option View → Option View → Split
by_null taken set null = (if taken then (null, set) else (set, null))

-- a lookup result is 0, or points to the start of an entry
abbrev pub lookup_ways : View → ℕ → ℕ → Option Bool → Result Split Fault
lookup_ways a dst map None = Err fault.NotTested
lookup_ways a dst map (Some taken) =
    Ok (by_null taken (Some (with_register a dst (Pointer (place.Entry map) (num_single 0))))
    (Some (with_register a dst (Number (num_single 0)))))

-- a pointer takes the branch of what isn't 0; no other comparison of a pointer with a number is defined
abbrev pub pointer_ways : View → Option Bool → Result Split Fault
pointer_ways a None = Err fault.WrongOperand
pointer_ways a (Some taken) = Ok (by_null taken (Some a) None)

-- ---- tests of a frame pointer against the frame end

-- what a branch tells: nothing, that the offset is at most the length, or that it is below it
pub data Lesson : Type 0 where
  Nothing : Lesson
  AtMost : Lesson
  Below : Lesson

-- the comparison with its sides swapped
abbrev pub turned : Compare → Option Compare
turned Gt = Some Lt
turned Ge = Some Le
turned Lt = Some Gt
turned Le = Some Ge
turned compare = None

-- what a branch tells on which a pointer compares so with the end, or doesn't
abbrev pub lesson : Compare → Bool → Lesson
lesson Gt taken = (if taken then Nothing else AtMost)
lesson Ge taken = (if taken then Nothing else Below)
lesson Lt taken = (if taken then Below else Nothing)
lesson Le taken = (if taken then AtMost else Nothing)
lesson compare taken = Nothing

-- raises the label's room, if no offset is before its position
abbrev pub with_reach : View → Num → Option Label → ℕ → View
with_reach a offset None more = a
with_reach a offset (Some l) more =
    (if nat_le l.distance offset.range.low then with_room a l.label (l.distance + more) else a)

-- the frame has at least the least offset plus `more` bytes; None if that exceeds 2400
abbrev pub learnt : View → Num → Option Label → ℕ → Option View
learnt a offset l more =
    (if nat_le (offset.range.low + more) 2400
    then Some (with_reach (with_least a (offset.range.low + more)) offset l more) else None)

-- the branch, refined; None if it would need a frame of more than 2400 bytes
abbrev pub taught : View → Num → Option Label → Lesson → Option View
taught a offset l Nothing = Some a
taught a offset l AtMost = learnt a offset l 0
taught a offset l Below = learnt a offset l 1

-- both branches of a comparison with the frame end, refined
abbrev pub end_ways : View → Num → Option Label → Compare → Split
end_ways a offset l compare =
    (taught a offset l (lesson compare false), taught a offset l (lesson compare true))

-- only the unsigned orders may compare a frame pointer with the frame end
abbrev pub end_test : View → Num → Option Label → Option Compare → Result Split Fault
end_test a offset l None = Err fault.WrongOperand
end_test a offset l (Some compare) = Ok (end_ways a offset l compare)

-- only the unsigned orders
abbrev pub is_order : Compare → Option Compare
is_order Gt = Some Gt
is_order Ge = Some Ge
is_order Lt = Some Lt
is_order Le = Some Le
is_order compare = None

-- ---- all of them

-- JMP: numbers, tests for null, and a frame pointer with the frame end, in either order
abbrev pub wide_ways : View → Compare → ℕ → Source → AbsVal → AbsVal → Result Split Fault
wide_ways a compare dst s (Number x) (Number y) = Ok (number_ways a true compare dst s x y)
wide_ways a compare dst s (Lookup map) (Number y) =
    lookup_ways a dst map (null_test compare (is_zero s))
wide_ways a compare dst s (Frame offset l) (Number y) =
    pointer_ways a (null_test compare (is_zero s))
wide_ways a compare dst s (Pointer region offset) (Number y) =
    pointer_ways a (null_test compare (is_zero s))
wide_ways a compare dst s (Frame offset l) FrameEnd = end_test a offset l (is_order compare)
wide_ways a compare dst s FrameEnd (Frame offset l) = end_test a offset l (turned compare)
wide_ways a compare dst s x y = Err (wrong_two x y)

-- JMP32 compares only numbers
abbrev pub narrow_ways : View → Compare → ℕ → Source → AbsVal → AbsVal → Result Split Fault
narrow_ways a compare dst s (Number x) (Number y) = Ok (number_ways a false compare dst s x y)
narrow_ways a compare dst s x y = Err (wrong_two x y)

-- the branches of a conditional jump
abbrev pub split : View → Bool → Compare → ℕ → Source → Result Split Fault
split a wide compare dst s =
    (if wide then wide_ways a compare dst s (register a dst) (compared_value true a s)
    else narrow_ways a compare dst s (register a dst) (compared_value false a s))
