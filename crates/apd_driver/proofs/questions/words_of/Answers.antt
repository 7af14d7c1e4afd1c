use Rattle.std.proofs.Common.{arith, refl}
use Rattle.apd_driver.proofs.Looks.{looks_more, looks_none}
use Rattle.apd_driver.proofs.questions.words_of.Goals as goal

pub loop-place-init : goal.loop-place-init
loop-place-init g c = record { looks = looks_none _ _ refl; many = c.new-words.ensures.len }

pub loop-place-preserved : goal.loop-place-preserved
loop-place-preserved g c =
    record {
      looks = looks_more _ _ _ c.loop-place.invariant.looks (c.value_of-value.ensures.looks c.use_of.ensures.look);
      many = omega (arith, c.in_ok-push.ensures.len, c.loop-place.invariant.many);
    }

pub returns-clause-looks : goal.returns-clause-looks
returns-clause-looks g c = c.loop-place.invariant.looks

pub returns-in_err-push-clause-looks : goal.returns-in_err-push-clause-looks
returns-in_err-push-clause-looks g c = looks_more _ _ _ c.loop-place.invariant.looks (c.value_of-value.ensures.looks c.use_of.ensures.look)
