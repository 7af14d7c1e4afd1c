use Rattle.std.proofs.Common.{◌∙◌, subst, sym}
use Rattle.bpf_stack.specs.Leaves.{slots_of, IsStack}
use Rattle.bpf_stack.proofs.Seen.{got, got_bare, stack_seen}
use Rattle.bpf_stack.proofs.stack.Stack.get.Goals as goal

pub returns-then-has-clause-is : goal.returns-then-has-clause-is
returns-then-has-clause-is c =
    rw (← c.self.view_is, c.bare.ensures)
    (got_bare c.self.inside.bare.bits (slots_of c.self.inside.slots) c.args.index _ c.get-slot.ensures (sym c.has.ensures ∙ c.if-has.true))

pub returns-then-has-clause-whole : goal.returns-then-has-clause-whole
returns-then-has-clause-whole c = subst IsStack c.self.view_is (stack_seen c.self.inside.bare.bits (slots_of c.self.inside.slots) c.self.invariant)

pub returns-clause-is : goal.returns-clause-is
returns-clause-is c =
    rw (← c.self.view_is)
    (got c.self.inside.bare.bits (slots_of c.self.inside.slots) c.args.index _ c.get-slot.ensures (sym c.has.ensures ∙ c.if-has.false))

pub returns-clause-whole : goal.returns-clause-whole
returns-clause-whole c = subst IsStack c.self.view_is (stack_seen c.self.inside.bare.bits (slots_of c.self.inside.slots) c.self.invariant)
