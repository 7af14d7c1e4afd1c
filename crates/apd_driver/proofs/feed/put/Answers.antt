use Rattle.std.proofs.Common.{ap, ◌∙◌}
use Rattle.apd_driver.specs.Crews.{Crew, with_work}
use Rattle.apd_driver.proofs.Puts.{concerns_still, puts_rest, waits_again}
use Rattle.apd_driver.proofs.feed.put.Goals as goal

pub returns-in_default-go_on-clause-puts : goal.returns-in_default-go_on-clause-puts
returns-in_default-go_on-clause-puts g c =
    puts_rest _ _ _ _ _ _ _ c.loop.invariant.3 (rw c.in_default-go_on.is at c.go_on.ensures.puts (concerns_still _ _ _ _ _ _ _ c.loop.invariant.3))

pub loop-preserved : goal.loop-preserved
loop-preserved g c = (
  tt,
  tt,
  c.go_on.ensures.works ∙ ap (λ (x : Crew g.O.Operating.semantics). with_work x (g.O.Operating.crew c.go_on.new.self).work) c.loop.invariant.2,
  waits_again _ _ _ _ _ _ _ _ _ c.loop.invariant.3 (rw c.in-Err-go_on.is at c.go_on.ensures.waits (concerns_still _ _ _ _ _ _ _ c.loop.invariant.3)),
)
