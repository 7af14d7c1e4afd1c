use Rattle.std.proofs.lemmas.Result.{err_from_is_err_and}
use Rattle.versions_checked.proofs.Obtained.{refused_obtains}
use Rattle.versions_checked.proofs.offer.publish_checked_within.Goals as goal

-- a fault of the certificate's check is that of the publication
pub returns-in_err-accepted-clause-only : goal.returns-in_err-accepted-clause-only
returns-in_err-accepted-clause-only g c b h =
    let p = err_from_is_err_and c.from_residual.result c.from_residual.ensures.1 in
    rw (p.1, p.2) (refused_obtains c.args.most c.args.publisher.now c.args.offer c.in_err-accepted.field-0.0 b (c.in_err-accepted.ensures.only b h))

-- the budget that the certificate shows is the admitted one
pub returns-in-Ok-clause-only : goal.returns-in-Ok-clause-only
returns-in-Ok-clause-only g c b h = rw c.budget-budget.ensures.is (c.in_ok-accepted.ensures.only b h)
