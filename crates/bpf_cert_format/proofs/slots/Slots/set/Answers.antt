use Rattle.std.proofs.Common.{List, ap, set, ◌∙◌}
use Rattle.bpf_absval.specs.declared.slot.AbsSlot.{AbsSlot}
use Rattle.bpf_cert_format.specs.Slots.{no_slots, slots_after}
use Rattle.bpf_cert_format.proofs.Known.{one_more}
use Rattle.bpf_cert_format.proofs.slots.Slots.set.Goals as goal

pub returns-clause-ok : goal.returns-clause-ok
returns-clause-ok c =
    ap (slots_after no_slots) c.in_ok-push.ensures.items ∙ one_more no_slots c.self.inside.known.items (record { index = c.args.index; slot = c.args.slot })
    ∙ ap (λ (s : List AbsSlot). set s c.args.index c.args.slot) c.self.view_is
