use Rattle.std.proofs.Common.{subst}
use Rattle.assoc.specs.Standings.{NoneTwice, HoldsAsTheyStand, standing}
use Rattle.assoc.proofs.Tables.{twice_none}
use Rattle.assoc.proofs.link.Link.associated.Goals as goal

pub returns-clause-holds : goal.returns-clause-holds
returns-clause-holds c = subst HoldsAsTheyStand c.self.view_is (record { held = c.self.invariant.held; holds = c.self.invariant.holds; own = c.self.invariant.own })

pub returns-clause-once : goal.returns-clause-once
returns-clause-once c = subst (λ v. NoneTwice (standing v)) c.self.view_is (twice_none _ _ _ _ c.self.invariant)
