use Rattle.std.proofs.Common.{rules, ◌≡◌, ◌+◌, ◌<◌, length, subst, arith}
use Rattle.bpf_absstate.specs.View.{View, called, kept_registers, empty_stack}
use Rattle.bpf_absstate.specs.WellFormed.{IsState}
use Rattle.std.proofs.lemmas.List.{length_push}
use Rattle.bpf_absstate.proofs.Whole.{whole_called}
use Rattle.bpf_absstate.proofs.state.AbsState.call.Goals as goal

pub invariant_of-self : goal.invariant_of-self
invariant_of-self c =
    let a = c.self.inside in
    let old : View = record { pc = a.pc; registers = a.registers; frames = a.frames.value; least = a.least; rooms = a.rooms.value } in
    let new : View = record { pc = c.args.to; registers = c.in_ok-registers.registers; frames = c.in_ok-frames.frames.value; least = a.least; rooms = a.rooms.value } in
    let few : length a.frames.value < 8 = search rules in
    let same : called old c.args.to c.args.back ≡ new = search rules in
    let count = c.self.invariant.count in
    let more = length_push a.frames.value (record { return_slot = c.args.back; kept = kept_registers old; stack = empty_stack }) in
    subst (IsState (a.depth + 1)) same (record { view = whole_called old c.args.to c.args.back few c.self.invariant.view; count = omega (arith, count, more) })
