use Rattle.ap_live.proofs.Keeping.{operator_kept}
use Rattle.live_scenes.specs.Rights.{IsChiefBoxed}
use Rattle.live_scenes.proofs.Keeping.{chief_kept}
use Rattle.live_scenes.proofs.OneByOne.{all_still}
use Rattle.live_scenes.proofs.crew.hire.Goals as goal

pub returns-clause-chiefs : goal.returns-clause-chiefs
returns-clause-chiefs g c =
    let a = c.hire_operators.new.ap in
    let b = c.hire_workers.new.ap in
    all_still (IsChiefBoxed a) (IsChiefBoxed b) c.in_ok-operators.operators.items (λ o h. chief_kept a b o.value (operator_kept a b o.value c.in_ok-workers.ensures.keeps) h) c.in_ok-operators.ensures.own
