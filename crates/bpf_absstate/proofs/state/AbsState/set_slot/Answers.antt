use Rattle.std.proofs.Common.{◌≡◌, inl, inr, slice_set, slice_index_or, refl, sym, ◌∙◌, ap, subst, length-set}
use Rattle.std.specs.Result.{IsOk}
use Rattle.bpf_absstate.specs.View.{with_frame_slot, main_frame}
use Rattle.bpf_absstate.specs.WellFormed.{IsView, IsState}
use Rattle.bpf_absstate.proofs.Whole.{whole_slot}
use Rattle.bpf_absstate.proofs.state.AbsState.set_slot.Goals as goal

pub invariant_of-self-2 : goal.invariant_of-self-2
invariant_of-self-2 c =
    let a = c.self.inside in let k = c.args.k in let i = c.args.index in let s = c.args.slot in
    let now = c.in_ok-frames.frames.now in let new = c.set_slot.new.self in
    let same : now ≡ a.frames.value = elim c.in_ok-frames.ensures.value [ inl e ↦ e | inr e ↦ e ] in
    let held : (c.make_mut.follows.lender new).value ≡ new = c.make_mut.follows.holds new (subst IsOk (sym c.in_ok-frames.was) refl) in
    let made : with_frame_slot a.frames.value k i s ≡ (c.make_mut.follows.lender new).value =
    sym (held ∙ c.in_ok-set_slot.ensures.ok ∙ ap (λ fs. with_frame_slot fs k i s) same) in
    let whole : IsView (record { pc = a.pc; registers = a.registers; frames = with_frame_slot a.frames.value k i s; least = a.least; rooms = a.rooms.value }) =
    whole_slot (record { pc = a.pc; registers = a.registers; frames = a.frames.value; least = a.least; rooms = a.rooms.value }) k i s c.in_ok-set_slot.ensures.whole c.self.invariant.view in
    subst (λ fs. IsState a.depth (record { pc = a.pc; registers = a.registers; frames = fs; least = a.least; rooms = a.rooms.value })) made
    (record { view = whole; count = c.self.invariant.count ∙ sym (length-set a.frames.value k (record (slice_index_or a.frames.value k main_frame) { stack = slice_set (slice_index_or a.frames.value k main_frame).stack i s })) })
