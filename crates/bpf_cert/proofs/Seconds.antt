-- A conditional jump leads to a target slot.
use Rattle.std.proofs.Common.{◌≡◌, ℕ, ◌+◌, length, refl, subst, Option, Some, None, true, false, Bool, ℤ, Result, Ok}
use Rattle.std.specs.Prelude.{◌==◌, if◌then◌else◌}
use Rattle.bpf_insn.specs.declared.insn.Insn.{Insn}
use Rattle.bpf_insn.specs.declared.insn.Insn.TheVariants as insn
use Rattle.bpf_words.specs.Word.{word_of}
use Rattle.bpf_decode.specs.Flow.{jump_of}
use Rattle.bpf_decode.specs.Program.{Code, Holds, IsWhole, IsTarget, Jumped}
use Rattle.bpf_model.specs.Memory.{size_bytes}
use Rattle.bpf_model.specs.Step.{atomic_bytes}
use Rattle.bpf_absnum.specs.Number.{Num}
use Rattle.bpf_absnum.specs.Transfer.{num_negated, num_extended, num_ordered}
use Rattle.bpf_absval.specs.declared.value.AbsVal.{AbsVal}
use Rattle.bpf_absval.specs.declared.value.AbsVal.TheVariants.{Number}
use Rattle.bpf_absstate.specs.View.{View, register, returned}
use Rattle.bpf_rules.specs.declared.fault.Fault.{Fault}
use Rattle.bpf_rules.specs.declared.ways.Ways.{Ways}
use Rattle.bpf_rules.specs.declared.ways.Ways.TheVariants.{Nowhere, One}
use Rattle.bpf_rules.specs.Operands.{number, source_value, alu, wide_value}
use Rattle.bpf_rules.specs.Memory.{load, store, atomic, next_pc}
use Rattle.bpf_rules.specs.Branches.{split}
use Rattle.bpf_rules.specs.Calls.{helped, answered, call, exit_number}
use Rattle.bpf_rules.specs.Examined.{landing, put, put_number, before_put, operated, ways, moved_to, branched, exited, compared, examined}
use Rattle.bpf_rules.proofs.Landings.{lands}
use Rattle.bpf_rules.proofs.Outcomes.{okay-same, on_ok}
use Rattle.bpf_cert.specs.Steps.{SecondIsTarget}

abbrev done : Ways → Result Ways Fault
done w = Ok w

module _ (c : Code) (whole : IsWhole c) (a : View) where
  none : (v w : Ways) → SecondIsTarget c v → done v ≡ done w → SecondIsTarget c w
  none v w h e = subst (SecondIsTarget c) (okay-same v w e) h

  puts : (b : View) (n dst : ℕ) (v : AbsVal) (w : Ways) → put b n dst v ≡ Ok w → SecondIsTarget c w
  puts b n dst v w e = subst (SecondIsTarget c) (okay-same _ w e) tt

  put_numbers : (dst : ℕ) (f : Num → Num) (v : AbsVal) (w : Ways) → put_number a dst f v ≡ Ok w → SecondIsTarget c w
  put_numbers dst f v w e = let r = on_ok (number v) (λ x. put a 1 dst (Number (f x))) w e in puts a 1 dst (Number (f r.0)) w r.2

  parts : (o q : Option View) (m n : ℕ) → IsTarget c.slots n → SecondIsTarget c (ways (moved_to m o) (moved_to n q))
  parts None None m n t = tt
  parts (Some x) None m n t = tt
  parts None (Some y) m n t = tt
  parts (Some x) (Some y) m n t = t

  landing_target : (i : Insn) (x : ℤ) → Holds c.slots a.pc i → jump_of i ≡ Some x → IsTarget c.slots (landing a.pc x)
  landing_target i x at j = let r = whole.jumps a.pc i x at j in subst (IsTarget c.slots) (lands a.pc r.0 x r.1) (Jumped a.pc i x at j r.1)

  exits_by : (b : Bool) → SecondIsTarget c (if b then Nowhere else One (returned a))
  exits_by true = tt
  exits_by false = tt

pub second_target : (c : Code) (i : Insn) (a : View) (w : Ways) → IsWhole c → Holds c.slots a.pc i → examined c.shapes i a ≡ Ok w → SecondIsTarget c w
second_target c (insn.Alu op wide dst s) a w whole at e =
    let r = on_ok (alu a.pc op wide (register a dst) (source_value a s)) (operated a op dst (register a dst) (source_value a s)) w e in
    puts c whole a (before_put a op (register a dst) (source_value a s)) 1 dst r.0 w r.2
second_target c (insn.MovSx from wide dst src) a w whole at e = put_numbers c whole a dst (num_extended from wide) (register a src) w e
second_target c (insn.Neg wide dst) a w whole at e = put_numbers c whole a dst (num_negated wide) (register a dst) w e
second_target c (insn.End order width dst) a w whole at e = put_numbers c whole a dst (num_ordered order width) (register a dst) w e
second_target c (insn.Jump x) a w whole at e = none c whole a _ w tt e
second_target c (insn.JumpLong x) a w whole at e = none c whole a _ w tt e
second_target c (insn.Branch compare wide dst s x) a w whole at e =
    let r = on_ok (split a wide compare dst s) (λ y. Ok (branched a x y)) w e in
    subst (SecondIsTarget c) (okay-same (branched a x r.0) w r.2)
    (parts c whole a r.0.0 r.0.1 (a.pc + 1) (landing a.pc x) (landing_target c whole a _ x at refl))
second_target c (insn.Call helper) a w whole at e =
    let r = on_ok (helped a (word_of helper)) (λ v. Ok (One (answered a v))) w e in none c whole a _ w tt r.2
second_target c (insn.CallLocal x) a w whole at e =
    let r = on_ok (call a (landing a.pc x)) (λ b. Ok (One b)) w e in none c whole a _ w tt r.2
second_target c insn.Exit a w whole at e =
    let r = on_ok (exit_number (register a 0)) (λ x. Ok (exited a)) w e in
    subst (SecondIsTarget c) (okay-same (exited a) w r.2) (exits_by c whole a (length a.frames == 1))
second_target c (insn.Load size signed dst src x) a w whole at e =
    let r = on_ok (load c.shapes a (size_bytes size) signed (register a src) x) (put a 1 dst) w e in
    puts c whole a a 1 dst r.0 w r.2
second_target c (insn.Store size dst x s) a w whole at e =
    let r = on_ok (store c.shapes a (size_bytes size) (source_value a s) (register a dst) x) (λ b. Ok (One (next_pc b))) w e in none c whole a _ w tt r.2
second_target c (insn.Atomic op wide dst src x) a w whole at e =
    let r = on_ok (atomic c.shapes a (atomic_bytes wide) op src x (register a dst) (register a src) (compared op a)) (λ b. Ok (One (next_pc b))) w e in none c whole a _ w tt r.2
second_target c (insn.LoadWide dst v) a w whole at e = puts c whole a a 2 dst (wide_value v) w e
