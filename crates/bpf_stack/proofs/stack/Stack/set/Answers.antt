use Rattle.std.proofs.Common.{◌∙◌, ap, subst, sym, slice_set, length-set}
use Rattle.std.proofs.lemmas.List.Elements.{All-set}
use Rattle.bpf_absval.specs.WellFormed.{IsSlot}
use Rattle.bpf_stack.specs.Leaves.{slots_of, IsStack}
use Rattle.bpf_stack.proofs.Seen.{written}
use Rattle.bpf_stack.proofs.stack.Stack.set.Goals as goal

pub invariant_of-self-2 : goal.invariant_of-self-2
invariant_of-self-2 c =
    let row = slots_of c.self.inside.slots in let i = c.args.index in let s = c.args.slot in
    subst IsStack (sym c.in_ok-set.ensures.ok)
    (record { all = length-set row i s ∙ c.self.invariant.all; whole = All-set IsSlot row i s c.in_ok-set.ensures.whole c.self.invariant.whole })

pub returns-clause-ok : goal.returns-clause-ok
returns-clause-ok c =
    written c.self.inside.bare.bits c.without-self-inside.result.bits c.args.index (slots_of c.self.inside.slots) _ c.args.slot c.self.invariant.all
    c.in_ok-set.ensures.ok c.without-self-inside.ensures.here c.without-self-inside.ensures.others
    ∙ ap (λ row. slice_set row c.args.index c.args.slot) c.self.view_is
