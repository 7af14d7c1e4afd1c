use Rattle.bpf_verifier.proofs.Admitting.{withins, explored_within}
use Rattle.bpf_verifier.proofs.explanation.explore_limited.Goals as goal

pub returns-clause-refused : goal.returns-clause-refused
returns-clause-refused c =
    let v = c.explore_counted in
    withins c.args.program.now c.args.limits _ v.result (rw (c.within-work.ensures.is, c.units.ensures.is) at v.ensures.spent) v.ensures.counted v.ensures.refused (rw (c.within-work.ensures.is, c.units.ensures.is) at v.ensures.due)

pub returns-clause-budget : goal.returns-clause-budget
returns-clause-budget c =
    let v = c.explore_counted in
    explored_within c.args.program.now c.args.limits _ v.result (rw (c.within-work.ensures.is, c.units.ensures.is) at v.ensures.spent) v.ensures.counted (rw c.within-work.ensures.is at v.ensures.budget)
