-- What is known of abstract states, combined for the states that come next.
use Rattle.std.proofs.Common.{◌≢◌, ◌+◌, ℕ, List, slice_set, sym, subst, arith}
use Rattle.bpf_regions.specs.declared.memory.Value.{Value}
use Rattle.bpf_regions.specs.declared.memory.Value.TheVariants as value
use Rattle.bpf_model.specs.State.{State}
use Rattle.bpf_model.specs.Step.{answered as answered_state}
use Rattle.bpf_absval.specs.declared.value.AbsVal.{AbsVal}
use Rattle.bpf_absval.specs.declared.value.AbsVal.TheVariants as abs
use Rattle.bpf_absval.specs.Meaning.{Labels, Holds}
use Rattle.bpf_absstate.specs.Contains.{HoldsIn}
use Rattle.bpf_absstate.specs.View.{View, with_register}
use Rattle.bpf_absstate.proofs.Followed.{going_holds, changes_hold}
use Rattle.bpf_rules.specs.Calls.{answered}

module _ (e : Labels) where
  -- a register other than R10 changes, and control goes on
  pub puts : (a : View) (s : State) (pc r : ℕ) (v : AbsVal) (x : Value) → HoldsIn e a s → r ≢ 10 → Holds e a.rooms v x →
      HoldsIn e (record a { pc = pc; registers = slice_set a.registers r v }) (record s { pc = pc; regs = slice_set s.regs r x })
  puts a s pc r v x h other k = going_holds e (with_register a r v) (record s { regs = slice_set s.regs r x }) pc (changes_hold e a s r v x h other k)

  unset : (a : View) (s : State) (r : ℕ) → HoldsIn e a s → r ≢ 10 → HoldsIn e (with_register a r abs.Unset) (record s { regs = slice_set s.regs r value.Unset })
  unset a s r h other = changes_hold e a s r abs.Unset value.Unset h other tt

  -- notes don't matter to the abstract state
  noted : (a : View) (s : State) (notes : List ℕ) → HoldsIn e a s → HoldsIn e a (record s { notes = notes })
  noted a s notes h = record {
    pc = h.pc;
    registers = h.registers;
    count = h.count;
    pointer = h.pointer;
    stacks = h.stacks;
    callers = h.callers;
    some = h.some;
    least = h.least;
  }

  -- R0 has a result, and R1 to R5 are unset
  pub answers : (a : View) (s : State) (notes : List ℕ) (v : AbsVal) (x : Value) → HoldsIn e a s → Holds e a.rooms v x →
      HoldsIn e (answered a v) (answered_state (record s { notes = notes }) x)
  answers a s notes v x h k =
      let told : State = record s { notes = notes } in
      subst (λ n. HoldsIn e (answered a v) (record (answered_state told x) { pc = n + 1 })) (sym h.pc)
      (going_holds e _ _ (a.pc + 1) (unset _ _ 5 (unset _ _ 4 (unset _ _ 3 (unset _ _ 2 (unset _ _ 1
      (changes_hold e a told 0 v x (noted a s notes h) (omega arith) k)
      (omega arith)) (omega arith)) (omega arith)) (omega arith)) (omega arith)))
