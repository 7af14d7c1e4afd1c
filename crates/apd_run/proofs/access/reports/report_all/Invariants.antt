use Rattle.std.proofs.Common.{◌≡◌, ◌++◌}
use Rattle.std.specs.Vec.Iter.{into_iter_items}
use Rattle.apd_run.specs.Telling.{reports_in}
use Rattle.apd_run.proofs.access.reports.report_all.Given as goal

-- the reports on the rest are still to come
abbrev pub invariant-loop-tagged : goal.invariant-loop-tagged
invariant-loop-tagged l =
    (goal.iterator-loop-tagged).can_next l.tagged-iterator × (goal.iterator-loop-tagged).is_finite l.tagged-iterator
    × (l.all.items ++ reports_in (into_iter_items l.tagged-iterator) ≡ l.fn.all.items ++ reports_in l.fn.list.items)
