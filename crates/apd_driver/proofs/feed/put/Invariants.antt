use Rattle.apd_driver.specs.Following.{WaitsAt, first_shard}
use Rattle.apd_driver.specs.Crews.{Works}
use Rattle.apd_driver.proofs.feed.put.Given as goal

-- the shards before the one at which the event waits got it
abbrev pub invariant-loop : goal.invariant-loop
invariant-loop g l =
    (goal.iterator-loop g).can_next l.iterator' × (goal.iterator-loop g).is_finite l.iterator'
    × Works (g.O.Operating.crew l.fn.operator) (g.O.Operating.crew l.operator)
    × WaitsAt g.O.Operating.semantics l.fn.line l.fn.event (first_shard l.fn.event) (g.O.Operating.crew l.fn.operator).work (g.O.Operating.crew l.operator).work l.waiting
