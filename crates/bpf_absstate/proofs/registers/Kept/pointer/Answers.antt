use Rattle.std.proofs.Common.{◌∙◌, ◌<◌, length, sym, ap, arith, Some}
use Rattle.bpf_absval.specs.Unlabelled.{bare}
use Rattle.bpf_absstate.proofs.Marked.{kept_bare, kept_whole}
use Rattle.bpf_absstate.proofs.registers.Kept.pointer.Goals as goal
use Rattle.bpf_absstate.proofs.registers.Kept.pointer.Goals.{then-has+in_ok-write, else-has}

pub returns : goal.returns
returns c =
    let within : c.args.number < length c.self.inside.values = omega (arith, c.requires, c.self.invariant) in
    record {
      is = elim c.if-has.branch [
        | then-has+in_ok-write w ↦
            kept_bare c.self.inside.marks.bits c.self.inside.values c.args.number c.index-self-number.result _ c.self.view_is within (sym c.has.ensures ∙ w.if-has.true)
            ∙ ap Some (sym (ap (λ h. h.value) w.held-is ∙ w.in_ok-write.ensures.ok ∙ w.bare-value.ensures ∙ ap bare (w.deref.ensures ∙ c.in_ok-held.ensures.cases)))
        | else-has w ↦
            kept_whole c.self.inside.marks.bits c.self.inside.values c.args.number c.index-self-number.result _ c.self.view_is within (sym c.has.ensures ∙ w.if-has.false)
            ∙ ap Some (sym (ap (λ h. h.value) w.held-is ∙ c.in_ok-held.ensures.cases))
      ];
    }
