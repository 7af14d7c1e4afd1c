use Rattle.std.proofs.Common.{rules, ◌≡◌, ◌+◌, ◌-◌, ◌<◌, length, sym, ◌∙◌, ap, subst, arith}
use Rattle.bpf_absstate.specs.View.{View, returned, caller_registers}
use Rattle.bpf_absstate.specs.Popped.{IsPopped}
use Rattle.bpf_absstate.specs.WellFormed.{IsState}
use Rattle.std.proofs.lemmas.List.{length_push}
use Rattle.bpf_absstate.proofs.Returned.{returned_is}
use Rattle.bpf_absstate.proofs.Whole.{whole_returned}
use Rattle.bpf_absstate.proofs.state.AbsState.return_to_caller.Goals as goal

pub invariant_of-self : goal.invariant_of-self
invariant_of-self c =
    let a = c.self.inside in let left = c.in-Some.left in let below = c.in-Some.below.value in
    let old : View = record { pc = a.pc; registers = a.registers; frames = a.frames.value; least = a.least; rooms = a.rooms.value } in
    let new : View = record { pc = left.return_slot; registers = c.in_ok-registers-in-Some.registers; frames = below; least = a.least; rooms = a.rooms.value } in
    let popped : IsPopped old.frames left below = search rules in
    let deep : 1 < length old.frames = search rules in
    let all = c.self.invariant.count in
    let number : a.depth - 2 + 1 ≡ length old.frames - 1 = omega (arith, all, deep) in
    let written : caller_registers old.registers left.kept (length old.frames - 1) ≡ new.registers =
    sym (c.in_ok-registers-in-Some.ensures.is ∙ ap (caller_registers old.registers left.kept) number) in
    let same : returned old ≡ new = returned_is old left below popped ∙ ap (λ rs. record { pc = left.return_slot; registers = rs; frames = below; least = a.least; rooms = a.rooms.value }) written in
    let count = c.self.invariant.count in
    let e = ap length popped.is in let g = length_push below (record { return_slot = left.return_slot; kept = left.kept; stack = popped.stack }) in
    let n : a.depth - 1 ≡ length below = omega (arith, e, g, count) in
    subst (IsState (a.depth - 1)) same (record { view = whole_returned old deep c.self.invariant.view; count = n ∙ sym (ap (λ v. length v.frames) (returned_is old left below popped)) })
