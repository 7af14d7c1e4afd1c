-- A state at the next instruction.
use Rattle.std.proofs.Common.{ℕ, ◌≢◌, ◌+◌, slice_set, ap}
use Rattle.bpf_regions.specs.declared.memory.Value.{Value}
use Rattle.bpf_model.specs.State.{State, put}
use Rattle.bpf_model.specs.Memory as machine
use Rattle.bpf_absval.specs.declared.value.AbsVal.{AbsVal}
use Rattle.bpf_absval.specs.Meaning.{Labels, Holds}
use Rattle.bpf_absstate.specs.View.{View, with_register}
use Rattle.bpf_absstate.specs.Contains.{HoldsIn}
use Rattle.bpf_absstate.proofs.Followed.{changes_hold}
use Rattle.bpf_rules.specs.Memory.{next_pc}

pub goes_on : (e : Labels) (a : View) (s : State) → HoldsIn e a s → HoldsIn e (next_pc a) (machine.next_pc s)
goes_on e a s h = record { pc = ap (λ n. n + 1) h.pc; registers = h.registers; count = h.count; pointer = h.pointer; stacks = h.stacks; callers = h.callers; some = h.some; least = h.least }

pub puts : (e : Labels) (a : View) (s : State) (r : ℕ) (v : AbsVal) (x : Value) → HoldsIn e a s → r ≢ 10 → Holds e a.rooms v x →
    HoldsIn e (next_pc (with_register a r v)) (put s r x)
puts e a s r v x h other k = goes_on e (with_register a r v) (record s { regs = slice_set s.regs r x }) (changes_hold e a s r v x h other k)
