use Rattle.std.proofs.Common.{◌∙◌, sym, arith}
use Rattle.bpf_absval.specs.Unlabelled.{unlabelled}
use Rattle.bpf_absstate.specs.Shared.{held_by}
use Rattle.bpf_absstate.proofs.Pointers.{changed_more, changed_all, length_held}
use Rattle.bpf_absstate.proofs.registers.take_labels.Goals as goal

pub loop-k-preserved : goal.loop-k-preserved
loop-k-preserved c =
    let old = c.args.values.now in
    changed_more (unlabelled c.args.label) c.loop-k.values (held_by old) c.loop-k.k _ _ c.loop-k.invariant
    (omega (arith, c.loop-k.auto.values, c.loop-k-test.true)) (c.loop-k.auto.values ∙ sym (length_held old)) c.in_ok-take_label.ensures.is

pub returns : goal.returns
returns c =
    let old = c.args.values.now in
    record { is = changed_all (unlabelled c.args.label) (held_by c.loop-k.values) (held_by old) c.loop-k.k c.loop-k.invariant (omega (arith, length_held old, c.loop-k-test.false)) }
