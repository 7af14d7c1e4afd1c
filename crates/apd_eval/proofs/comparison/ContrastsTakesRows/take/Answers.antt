use Rattle.std.proofs.Common.{refl}
use Rattle.std.proofs.lemmas.Result.{IfOk-weaker}
use Rattle.apd_eval.proofs.comparison.ContrastsTakesRows.take.Goals as goal

pub returns-clause-is : goal.returns-clause-is
returns-clause-is c = IfOk-weaker c.tell.result _ _ (λ x h. record { ruling = c.rule-tried.result; policy = refl; is = c.rule-tried.ensures.ruling; told = h }) c.tell.ensures.told
