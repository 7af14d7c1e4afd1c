use Rattle.std.proofs.Common.{◌∙◌, ap, arith}
use Rattle.bpf_absval.specs.Marked.{seen}
use Rattle.bpf_absval.specs.Unlabelled.{unlabelled, bare}
use Rattle.bpf_absval.proofs.Marking.{seen_length}
use Rattle.bpf_absstate.specs.Shared.{held_by}
use Rattle.bpf_absstate.proofs.Marked.{marked_more}
use Rattle.bpf_absstate.proofs.Pointers.{changed_all, length_held}
use Rattle.bpf_absstate.proofs.registers.forgotten.Goals as goal

pub loop-k-preserved : goal.loop-k-preserved
loop-k-preserved c =
    let x = c.index-values-k.result in
    let told = rw (c.deref.ensures ∙ ap (λ r. r.value) c.index-values-k.is) at c.marked-lost.ensures.here in
    marked_more c.args.values.now c.args.label c.args.marks.bits c.loop-k.lost.bits c.marked-lost.result.bits c.loop-k.k x c.requires c.loop-k-test.true
    c.marked-lost.ensures.others c.loop-k.invariant told

pub returns : goal.returns
returns c =
    let old = seen bare c.args.marks.bits 0 (held_by c.args.values.now) in
    changed_all (unlabelled c.args.label) _ old c.loop-k.k c.loop-k.invariant
    (omega (arith, seen_length bare c.args.marks.bits 0 (held_by c.args.values.now), length_held c.args.values.now, c.loop-k-test.false))
