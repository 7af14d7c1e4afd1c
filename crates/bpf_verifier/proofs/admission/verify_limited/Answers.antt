use Rattle.bpf_verifier.proofs.Admitting.{withins, found_within}
use Rattle.bpf_verifier.proofs.admission.verify_limited.Goals as goal

pub returns-clause-refused : goal.returns-clause-refused
returns-clause-refused c =
    let v = c.verify_counted in
    withins c.args.program c.args.limits _ v.result (rw (c.within-work.ensures.is, c.units.ensures.is) at v.ensures.spent) v.ensures.counted v.ensures.refused (rw (c.within-work.ensures.is, c.units.ensures.is) at v.ensures.due)

pub returns-clause-earned : goal.returns-clause-earned
returns-clause-earned c =
    let v = c.verify_counted in
    found_within (λ a. a.budget) c.args.limits _ v.result (rw (c.within-work.ensures.is, c.units.ensures.is) at v.ensures.spent) v.ensures.counted (rw c.within-work.ensures.is at v.ensures.earned)
