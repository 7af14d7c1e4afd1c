use Rattle.std.proofs.Common.{rules, ◌≡◌, sym, ◌∙◌, subst}
use Rattle.std.proofs.lemmas.List.{length-map}
use Rattle.bpf_absstate.specs.View.{View, without_label, frame_unlabelled}
use Rattle.bpf_absstate.specs.WellFormed.{IsState}
use Rattle.bpf_absstate.proofs.Whole.{whole_forgotten}
use Rattle.bpf_absstate.proofs.state.AbsState.forget_label.Goals as goal

pub invariant_of-self : goal.invariant_of-self
invariant_of-self c =
    let a = c.self.inside in
    let old : View = record { pc = a.pc; registers = a.registers; frames = a.frames.value; least = a.least; rooms = a.rooms.value } in
    let new : View = record { pc = a.pc; registers = c.in_ok-registers.registers; frames = c.in_ok-frames.frames.value; least = a.least; rooms = (c.make_mut.follows.lender c.forget.new.self).value } in
    let same : without_label old c.args.label ≡ new = search rules in
    subst (IsState a.depth) same (record { view = whole_forgotten c.args.label old c.self.invariant.view; count = c.self.invariant.count ∙ sym (length-map a.frames.value (frame_unlabelled c.args.label)) })
