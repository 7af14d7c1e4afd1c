use Rattle.bpf_plain.proofs.Plainly.{plain_clear}
use Rattle.bpf_verifier.proofs.Admitting.{budgets, refusals, found_within}
use Rattle.bpf_verifier.proofs.explanation.explain_limited.Goals as goal

pub returns-clause-budget : goal.returns-clause-budget
returns-clause-budget c =
    let v = c.observed_budget-verdict in
    rw c.in_ok-explanation.ensures.verdict (budgets c.args.program.now c.args.limits.states v.result v.ensures.safe v.ensures.small v.ensures.walk)

pub returns-clause-refused : goal.returns-clause-refused
returns-clause-refused c =
    let v = c.observed_budget-verdict in
    rw c.in_ok-explanation.ensures.verdict
    (refusals c.args.program.now c.args.limits _ v.result (plain_clear c.args.program.now c.new.ensures.whole) (rw (c.within-work.ensures.is, c.units.ensures.is) at v.ensures.spent) (record { allowed = c.known.ensures.allowed; all = c.known.ensures.counted }) v.ensures.begins v.ensures.clear
    (rw (c.within-work.ensures.is, c.units.ensures.is) at v.ensures.due))

pub returns-clause-start : goal.returns-clause-start
returns-clause-start c = rw c.in_ok-explanation.ensures.verdict c.in_ok-explanation.ensures.start

pub returns-clause-earned : goal.returns-clause-earned
returns-clause-earned c =
    let v = c.observed_budget-verdict in
    rw c.in_ok-explanation.ensures.verdict
    (found_within (λ b. b) c.args.limits _ v.result (rw (c.within-work.ensures.is, c.units.ensures.is) at v.ensures.spent) (record { allowed = c.known.ensures.allowed; all = c.known.ensures.counted }) (rw c.within-work.ensures.is at v.ensures.earned))
