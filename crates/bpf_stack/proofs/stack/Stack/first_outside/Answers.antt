use Rattle.std.proofs.Common.{◌<◌, arith}
use Rattle.bpf_absval.specs.Unlabelled.{slot_bare}
use Rattle.bpf_absval.proofs.Marking.{seen_length}
use Rattle.bpf_stack.specs.Leaves.{slots_of}
use Rattle.bpf_stack.proofs.Outside.{if_some}
use Rattle.bpf_stack.proofs.stack.Stack.first_outside.Goals as goal

pub returns-clause-few : goal.returns-clause-few
returns-clause-few c =
    if_some c.first_outside.result _ (λ index. index < 64)
    (λ i h. omega (arith, h.within, seen_length slot_bare c.self.inside.bare.bits 0 (slots_of c.self.inside.slots), c.self.invariant.all)) c.first_outside.ensures.some
