use Rattle.std.proofs.Common.{◌^◌, ◌∙◌, sym, ap}
use Rattle.bpf_stack.specs.Leaves.{slots_of}
use Rattle.bpf_stack.proofs.Seen.{unset_forgotten, one_forgotten, one_stays, both_forgotten}
use Rattle.bpf_stack.proofs.tree.Slots.+forgotten.Goals as goal

pub returns-in-Unset-clause-inside : goal.returns-in-Unset-clause-inside
returns-in-Unset-clause-inside t c = rw c.in-Unset.is (unset_forgotten c.args.label c.args.bare.bits c.args.first (2 ^ c.in-Unset.field-0))

pub returns-then-has_label-clause-inside : goal.returns-then-has_label-clause-inside
returns-then-has_label-clause-inside t c =
    let told = rw c.deref.ensures at c.has_label.ensures in
    rw c.in-Leaf.is (one_forgotten c.args.label c.args.bare.bits c.with.result.bits c.args.first c.in-Leaf.slot.value (sym told ∙ c.if-has_label.true) c.with.ensures.here)

pub returns-else-has_label-clause-inside : goal.returns-else-has_label-clause-inside
returns-else-has_label-clause-inside t c =
    let told = rw c.deref.ensures at c.has_label.ensures in
    rw c.in-Leaf.is (one_stays c.args.label c.args.bare.bits c.args.first c.in-Leaf.slot.value (sym told ∙ c.if-has_label.false))

pub returns-in-Fork-clause-inside : goal.returns-in-Fork-clause-inside
returns-in-Fork-clause-inside t c =
    let is = ap slots_of c.in-Fork.is ∙ sym c.deref-pair.ensures ∙ sym c.pair.view_is in
    both_forgotten c.args.label c.args.bare.bits _ _ c.args.first c.args.count _ _ _ is c.pair.invariant c.requires.whole c.requires.within
    c.forgotten-bare.ensures.outside c.forgotten.ensures.outside c.forgotten-bare.ensures.inside c.forgotten.ensures.inside
