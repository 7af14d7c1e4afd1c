use Rattle.std.proofs.Common.{◌≡◌, vec_capacity}
use Rattle.ap_core.proofs.Lists.{Passing}
use Rattle.ap_core.proofs.ups.pass_up.Given as goal

abbrev pub invariant-loop-number : goal.invariant-loop-number
invariant-loop-number l =
    (goal.iterator-loop-number).can_next l.number-iterator × (goal.iterator-loop-number).is_finite l.number-iterator
    × Passing l.station l.tid l.fn.passed.items l.fn.outs.items l.yielded l.number-iterator l.outs.items
    × (vec_capacity l.outs ≡ vec_capacity l.fn.outs)
