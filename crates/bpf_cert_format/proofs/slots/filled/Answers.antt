use Rattle.std.proofs.Common.{set, sym, ap, ◌∙◌, List}
use Rattle.bpf_absval.specs.declared.slot.AbsSlot.{AbsSlot}
use Rattle.bpf_cert_format.specs.Slots.{no_slots}
use Rattle.bpf_cert_format.proofs.Known.{taken_more}
use Rattle.bpf_cert_format.proofs.slots.filled.Goals as goal

pub loop-one-preserved : goal.loop-one-preserved
loop-one-preserved c =
    let x = c.one-item.result in
    ap (λ (s : List AbsSlot). set s x.index x.slot) c.loop-one.invariant ∙ sym (taken_more no_slots c.args.known.now c.loop-one.one-index x c.loop-one-test.true c.one-item.is)
