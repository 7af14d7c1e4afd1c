-- What one instruction makes of an abstract state: its successors, or the fault that is met first.
use Rattle.std.specs.Prelude.{ℕ, ◌+◌, ◌-◌, ◌==◌, ℤ, pos, negsuc, if◌then◌else◌, List, length, Option, Some, None, Result, Ok}
use Rattle.bpf_insn.specs.declared.insn.AluOp.{AluOp}
use Rattle.bpf_insn.specs.declared.insn.AtomicOp.{AtomicOp}
use Rattle.bpf_insn.specs.declared.insn.AtomicOp.TheVariants.{Cmpxchg}
use Rattle.bpf_insn.specs.declared.insn.Insn.{Insn}
use Rattle.bpf_insn.specs.declared.insn.Insn.TheVariants as insn
use Rattle.bpf_regions.specs.declared.maps.Shape.{Shape}
use Rattle.bpf_words.specs.Word.{word_of}
use Rattle.bpf_model.specs.Memory.{size_bytes}
use Rattle.bpf_model.specs.Step.{atomic_bytes}
use Rattle.bpf_absnum.specs.Number.{Num, num_single}
use Rattle.bpf_absnum.specs.Transfer.{num_negated, num_extended, num_ordered}
use Rattle.bpf_absval.specs.declared.value.AbsVal.{AbsVal}
use Rattle.bpf_absval.specs.declared.value.AbsVal.TheVariants.{Number}
use Rattle.bpf_absstate.specs.View.{View, register, with_register, without_label, at_slot, returned}
use Rattle.bpf_rules.specs.declared.fault.Fault.{Fault}
use Rattle.bpf_rules.specs.declared.ways.Ways.{Ways}
use Rattle.bpf_rules.specs.declared.ways.Ways.TheVariants.{Nowhere, One, Two}
use Rattle.bpf_rules.specs.Faults.{on}
use Rattle.bpf_rules.specs.Operands.{number, source_value, alu, makes_label, wide_value}
use Rattle.bpf_rules.specs.Memory.{load, store, atomic, next_pc}
use Rattle.bpf_rules.specs.Branches.{Split, split}
use Rattle.bpf_rules.specs.Calls.{helped, answered, call, exit_number}

-- the target of a jump, counted from the slot after it
abbrev pub landing : ℕ → ℤ → ℕ
landing pc (pos n) = pc + 1 + n
landing pc (negsuc n) = pc - n

-- n slots further, with a value in a register
abbrev pub put : View → ℕ → ℕ → AbsVal → Result Ways Fault
put a n dst v = Ok (One (at_slot (with_register a dst v) (a.pc + n)))

-- an operation on a number
abbrev pub put_number : View → ℕ → (Num → Num) → AbsVal → Result Ways Fault
put_number a dst f v = on (number v) (λ x. put a 1 dst (Number (f x)))

-- before a frame pointer gets a new label, the state forgets that label
abbrev pub before_put : View → AluOp → AbsVal → AbsVal → View
before_put a op x y = (if makes_label op x y then without_label a (a.pc + 1) else a)

-- an operation's result in its register
abbrev pub operated : View → AluOp → ℕ → AbsVal → AbsVal → AbsVal → Result Ways Fault
operated a op dst x y v = put (before_put a op x y) 1 dst v

-- the branches that are visited
abbrev pub ways : Option View → Option View → Ways
ways None None = Nowhere
ways (Some x) None = One x
ways None (Some y) = One y
ways (Some x) (Some y) = Two x y

-- a branch that is visited goes on at that slot
abbrev pub moved_to : ℕ → Option View → Option View
moved_to pc None = None
moved_to pc (Some a) = Some (at_slot a pc)

-- the next slot if a jump isn't taken, and its target if it is
abbrev pub branched : View → ℤ → Split → Ways
branched a by s = ways (moved_to (a.pc + 1) s.0) (moved_to (landing a.pc by) s.1)

-- the main function's EXIT has no successor, any other returns to its caller
abbrev pub exited : View → Ways
exited a = (if length a.frames == 1 then Nowhere else One (returned a))

-- only CMPXCHG reads R0
abbrev pub compared : AtomicOp → View → AbsVal
compared Cmpxchg a = register a 0
compared op a = Number (num_single 0)

-- one case for each kind of instruction
abbrev pub examined : List Shape → Insn → View → Result Ways Fault
examined shapes (insn.Alu op wide dst s) a =
    on (alu a.pc op wide (register a dst) (source_value a s))
    (operated a op dst (register a dst) (source_value a s))
examined shapes (insn.MovSx from wide dst src) a =
    put_number a dst (num_extended from wide) (register a src)
examined shapes (insn.Neg wide dst) a = put_number a dst (num_negated wide) (register a dst)
examined shapes (insn.End order width dst) a =
    put_number a dst (num_ordered order width) (register a dst)
examined shapes (insn.Jump by) a = Ok (One (at_slot a (landing a.pc by)))
examined shapes (insn.JumpLong by) a = Ok (One (at_slot a (landing a.pc by)))
examined shapes (insn.Branch compare wide dst s by) a =
    on (split a wide compare dst s) (λ w. Ok (branched a by w))
examined shapes (insn.Call helper) a = on (helped a (word_of helper)) (λ v. Ok (One (answered a v)))
examined shapes (insn.CallLocal by) a = on (call a (landing a.pc by)) (λ b. Ok (One b))
examined shapes insn.Exit a = on (exit_number (register a 0)) (λ x. Ok (exited a))
examined shapes (insn.Load size signed dst src by) a =
    on (load shapes a (size_bytes size) signed (register a src) by) (put a 1 dst)
examined shapes (insn.Store size dst by s) a =
    on (store shapes a (size_bytes size) (source_value a s) (register a dst) by)
    (λ b. Ok (One (next_pc b)))
examined shapes (insn.Atomic op wide dst src by) a =
    on
    (atomic shapes a (atomic_bytes wide) op src by (register a dst) (register a src)
    (compared op a))
    (λ b. Ok (One (next_pc b)))
examined shapes (insn.LoadWide dst v) a = put a 2 dst (wide_value v)
