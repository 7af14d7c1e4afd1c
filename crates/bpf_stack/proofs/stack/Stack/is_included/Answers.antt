use Rattle.bpf_stack.specs.Included.{IsOutside}
use Rattle.bpf_stack.proofs.Outside.{slots_excluded, told_by_none}
use Rattle.bpf_stack.proofs.stack.Stack.is_included.Goals as goal

pub returns : goal.returns
returns c =
    told_by_none (IsOutside c.args.rooms.now c.args.others.now c.args.self.now c.args.other.now) c.first_outside.result _ c.is_none.result c.first_outside.ensures.none c.first_outside.ensures.some
    (λ i h. slots_excluded c.args.rooms.now c.args.others.now c.args.self.now c.args.other.now i h.outside) c.is_none.ensures
