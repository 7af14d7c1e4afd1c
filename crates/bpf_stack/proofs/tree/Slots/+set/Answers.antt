use Rattle.std.proofs.Common.{rules, length, ◌∙◌, ap}
use Rattle.bpf_stack.specs.Leaves.{slots_of}
use Rattle.bpf_stack.proofs.Sides.{set_left, set_right}
use Rattle.bpf_stack.proofs.tree.Slots.+set.Goals as goal

pub returns-then-index-half-clause-ok : goal.returns-then-index-half-clause-ok
returns-then-index-half-clause-ok t c =
    rw c.in-Fork.is
    (set_left _ _ _ _ _ _ c.args.count _ _ (c.requires.whole ∙ ap (λ s. length (slots_of s)) c.in-Fork.is) c.in_ok-pair-in-Fork.ensures.value c.pair.view_is c.pair.invariant
    c.in_ok-set-in-Fork.ensures.ok (c.make_mut-in-Fork.follows.holds _ (search rules)) c.if-index-half.true)

pub returns-in-Fork-clause-ok : goal.returns-in-Fork-clause-ok
returns-in-Fork-clause-ok t c =
    rw c.in-Fork.is
    (set_right _ _ _ _ _ _ c.args.count _ _ (c.requires.whole ∙ ap (λ s. length (slots_of s)) c.in-Fork.is) c.in_ok-pair-in-Fork.ensures.value c.pair.view_is c.pair.invariant
    c.in_ok-set-in-Fork-2.ensures.ok (c.make_mut-in-Fork.follows.holds _ (search rules)) c.if-index-half.false)
