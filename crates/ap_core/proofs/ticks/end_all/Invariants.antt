use Rattle.std.proofs.Common.{◌≡◌, ℕ, ◌≤◌, length, vec_len, vec_capacity}
use Rattle.std.specs.Vec.Iter.{into_iter_items}
use Rattle.ap_core.specs.Handles.{rules}
use Rattle.ap_core.proofs.TickLaws.{Ending}
use Rattle.ap_core.proofs.ticks.end_all.Given as goal

abbrev pub invariant-loop-entry : goal.invariant-loop-entry
invariant-loop-entry l =
    (goal.iterator-loop-entry).can_next l.entry-iterator × (goal.iterator-loop-entry).is_finite l.entry-iterator
    × ((shard : ℕ) → Ending (rules shard l.config) l.fn.ended.items l.fn.outs.items l.yielded (into_iter_items l.entry-iterator) l.outs.items)
    × (length (into_iter_items l.entry-iterator) ≤ vec_len l.frames)
    × (vec_capacity l.outs ≡ vec_capacity l.fn.outs)
