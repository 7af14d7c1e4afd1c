use Rattle.std.proofs.Common.{◌^◌, ◌+◌, ◌/◌, ◌&&◌, sym, ◌∙◌, ap, arith, length}
use Rattle.std.proofs.lemmas.List.{length-replicate}
use Rattle.bpf_absval.specs.Marked.{seen}
use Rattle.bpf_absval.specs.Unlabelled.{slot_bare}
use Rattle.bpf_absval.specs.declared.slot.AbsSlot.TheVariants as cell
use Rattle.bpf_absval.proofs.Marking.{seen_length}
use Rattle.bpf_stack.specs.Leaves.{slots_of}
use Rattle.bpf_stack.specs.Included.{slots_included}
use Rattle.bpf_stack.proofs.Outside.{if_none, if_some}
use Rattle.bpf_stack.proofs.Seen.{unset_row_in, in_unset_row, unset_row_outside, one_included, one_outside, Halved, halves_included, outside_first, outside_second, half_of}
use Rattle.bpf_stack.proofs.tree.Slots.+first_outside.Goals as goal

pub returns-in-Unset-clause-none : goal.returns-in-Unset-clause-none
returns-in-Unset-clause-none t c =
    let s = c.args.compared.now in
    let size = sym (length-replicate (2 ^ c.in-Unset.field-0) cell.Unset) ∙ sym (ap (λ s. length (slots_of s)) c.in-Unset.is) ∙ sym c.requires.whole ∙ c.requires.same in
    rw c.in-Unset.is
    (if_none c.first_set.result _ _
    (unset_row_in s.rooms.now s.others.now s.bare.bits s.others_bare.bits c.args.first (2 ^ c.in-Unset.field-0) (slots_of c.args.other.now) size) c.first_set.ensures.none)

pub returns-in-Unset-clause-some : goal.returns-in-Unset-clause-some
returns-in-Unset-clause-some t c =
    let s = c.args.compared.now in
    let size = sym (length-replicate (2 ^ c.in-Unset.field-0) cell.Unset) ∙ sym (ap (λ s. length (slots_of s)) c.in-Unset.is) ∙ sym c.requires.whole ∙ c.requires.same in
    rw c.in-Unset.is
    (if_some c.first_set.result _ _
    (λ i h. unset_row_outside s.rooms.now s.others.now s.bare.bits s.others_bare.bits c.args.first (2 ^ c.in-Unset.field-0) (slots_of c.args.other.now) i size h) c.first_set.ensures.some)

pub returns-in-Unset-other-clause-none : goal.returns-in-Unset-other-clause-none
returns-in-Unset-other-clause-none t c =
    let s = c.args.compared.now in
    let size = sym c.requires.whole ∙ c.requires.same ∙ ap (λ s. length (slots_of s)) c.in-Unset-other.is ∙ length-replicate (2 ^ c.in-Unset-other.field-0) cell.Unset in
    rw c.in-Unset-other.is
    (in_unset_row s.rooms.now s.others.now s.bare.bits s.others_bare.bits c.args.first (2 ^ c.in-Unset-other.field-0) (slots_of c.args.self.now) size)

pub returns-in-Unset-other-2-clause-none : goal.returns-in-Unset-other-2-clause-none
returns-in-Unset-other-2-clause-none t c =
    let s = c.args.compared.now in
    let size = sym c.requires.whole ∙ c.requires.same ∙ ap (λ s. length (slots_of s)) c.in-Unset-other-2.is ∙ length-replicate (2 ^ c.in-Unset-other-2.field-0) cell.Unset in
    rw c.in-Unset-other-2.is
    (in_unset_row s.rooms.now s.others.now s.bare.bits s.others_bare.bits c.args.first (2 ^ c.in-Unset-other-2.field-0) (slots_of c.args.self.now) size)

pub returns-then-include-clause-none : goal.returns-then-include-clause-none
returns-then-include-clause-none t c =
    let s = c.args.compared.now in
    let told = rw (c.deref.ensures, c.deref-in-Leaf-other.ensures) at c.include.ensures in
    rw (c.in-Leaf.is, c.in-Leaf-other.is)
    (one_included s.rooms.now s.others.now s.bare.bits s.others_bare.bits c.args.first c.in-Leaf.a.value c.in-Leaf-other.b.value (sym told ∙ c.if-include.true))

pub returns-in-Leaf-other-clause-some : goal.returns-in-Leaf-other-clause-some
returns-in-Leaf-other-clause-some t c =
    let s = c.args.compared.now in
    let told = rw (c.deref.ensures, c.deref-in-Leaf-other.ensures) at c.include.ensures in
    rw (c.in-Leaf.is, c.in-Leaf-other.is)
    (one_outside s.rooms.now s.others.now s.bare.bits s.others_bare.bits c.args.first c.in-Leaf.a.value c.in-Leaf-other.b.value (sym told ∙ c.if-include.false))

pub returns-in-Some-clause-some : goal.returns-in-Some-clause-some
returns-in-Some-clause-some t c =
    let s = c.args.compared.now in
    let a = ap slots_of c.in-Fork.is ∙ sym c.deref-a.ensures ∙ sym c.a.view_is in
    let b = ap slots_of c.in-Fork-other-2.is ∙ sym c.deref-b-in-Fork-other-2.ensures ∙ sym c.b-in-Fork-other-2.view_is in
    let halved : Halved c.args.count (slots_of c.args.self.now) (slots_of c.a.inside.left) (slots_of c.a.inside.right)
    (slots_of c.args.other.now) (slots_of c.b-in-Fork-other-2.inside.left) (slots_of c.b-in-Fork-other-2.inside.right) =
    record { is = a; even = c.a.invariant; whole = c.requires.whole; is_other = b; even_other = c.b-in-Fork-other-2.invariant; whole_other = c.requires.same } in
    outside_first s.rooms.now s.others.now s.bare.bits s.others_bare.bits c.args.first c.args.count _ _ _ _ _ _ halved _ c.in-Some.ensures.some

pub returns-in-Some-first_outside-clause-some : goal.returns-in-Some-first_outside-clause-some
returns-in-Some-first_outside-clause-some t c =
    let s = c.args.compared.now in
    let a = ap slots_of c.in-Fork.is ∙ sym c.deref-a.ensures ∙ sym c.a.view_is in
    let b = ap slots_of c.in-Fork-other-2.is ∙ sym c.deref-b-in-Fork-other-2.ensures ∙ sym c.b-in-Fork-other-2.view_is in
    let halved : Halved c.args.count (slots_of c.args.self.now) (slots_of c.a.inside.left) (slots_of c.a.inside.right)
    (slots_of c.args.other.now) (slots_of c.b-in-Fork-other-2.inside.left) (slots_of c.b-in-Fork-other-2.inside.right) =
    record { is = a; even = c.a.invariant; whole = c.requires.whole; is_other = b; even_other = c.b-in-Fork-other-2.invariant; whole_other = c.requires.same } in
    outside_second s.rooms.now s.others.now s.bare.bits s.others_bare.bits c.args.first c.args.count _ _ _ _ _ _ halved _ c.in-Some-first_outside.ensures.some

pub overflow_add-result : goal.overflow_add-result
overflow_add-result t c =
    let s = c.args.compared.now in
    let inside = c.in-Some-first_outside.ensures.some.within in
    let few = seen_length slot_bare s.bare.bits (c.args.first + c.args.count / 2) (slots_of c.a.inside.right) in
    let a = ap slots_of c.in-Fork.is ∙ sym c.deref-a.ensures ∙ sym c.a.view_is in
    let half = half_of _ _ _ _ a c.a.invariant c.requires.whole in
    omega (arith, inside, few, half, c.a.invariant.same, c.requires.within)

pub returns-in-None-clause-none : goal.returns-in-None-clause-none
returns-in-None-clause-none t c =
    let s = c.args.compared.now in
    let a = ap slots_of c.in-Fork.is ∙ sym c.deref-a.ensures ∙ sym c.a.view_is in
    let b = ap slots_of c.in-Fork-other-2.is ∙ sym c.deref-b-in-Fork-other-2.ensures ∙ sym c.b-in-Fork-other-2.view_is in
    let halved : Halved c.args.count (slots_of c.args.self.now) (slots_of c.a.inside.left) (slots_of c.a.inside.right)
    (slots_of c.args.other.now) (slots_of c.b-in-Fork-other-2.inside.left) (slots_of c.b-in-Fork-other-2.inside.right) =
    record { is = a; even = c.a.invariant; whole = c.requires.whole; is_other = b; even_other = c.b-in-Fork-other-2.invariant; whole_other = c.requires.same } in
    let halves = halves_included s.rooms.now s.others.now s.bare.bits s.others_bare.bits c.args.first c.args.count _ _ _ _ _ _ halved in
    halves
    ∙ ap (λ left. left && slots_included s.rooms.now s.others.now
    (seen slot_bare s.bare.bits (c.args.first + c.args.count / 2) (slots_of c.a.inside.right))
    (seen slot_bare s.others_bare.bits (c.args.first + c.args.count / 2) (slots_of c.b-in-Fork-other-2.inside.right))) c.in_default.ensures.none
    ∙ c.in-None.ensures.none
