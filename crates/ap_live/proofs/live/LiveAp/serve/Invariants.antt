use Rattle.std.proofs.Common.{◌≡◌}
use Rattle.ap_live.specs.Serving.{Served}
use Rattle.ap_live.specs.Tokens.{IsWorker}
use Rattle.ap_live.proofs.live.LiveAp.serve.Given as goal

abbrev pub invariant-loop : goal.invariant-loop
invariant-loop g l =
    (goal.iterator-loop g).can_next l.iterator' × (goal.iterator-loop g).is_finite l.iterator'
    × IsWorker l.self l.worker
    × (l.worker.number ≡ l.initial.worker.number)
    × Served g.B.Journals.config l.self l.initial.worker l.worker l.initial.list.items l.list.items
