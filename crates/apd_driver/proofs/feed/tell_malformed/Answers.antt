use Rattle.std.proofs.Common.{List, subst}
use Rattle.std.proofs.lemmas.List.{take_all}
use Rattle.apd_script.specs.Batches.{numbers_of}
use Rattle.apd_script.specs.declared.batch.MalformedLine.{MalformedLine}
use Rattle.apd_driver.specs.Following.{Lists}
use Rattle.apd_driver.specs.Shows.{AnswerMalformed}
use Rattle.apd_driver.proofs.Gathering.{answers_more, answers_none, numbers_more}
use Rattle.apd_driver.proofs.Tallying.{tells_more, tells_none}
use Rattle.apd_driver.proofs.feed.tell_malformed.Goals as goal

pub loop-line-init : goal.loop-line-init
loop-line-init c = record { answers = answers_none _; told = tells_none _ }

pub loop-line-preserved : goal.loop-line-preserved
loop-line-preserved c =
    record {
      answers = answers_more _ _ _ _ _ _ (numbers_more c.args.malformed.now c.loop-line.line-index _ c.loop-line-test.true) c.loop-line.invariant.answers c.in_ok-tell_malformed_line.ensures.answers;
      told = tells_more _ _ _ c.loop-line.invariant.told c.in_ok-tell_malformed_line.ensures.told;
    }

pub returns-clause-answers : goal.returns-clause-answers
returns-clause-answers c =
    subst (λ (l : List MalformedLine). Lists (AnswerMalformed (numbers_of l)) c.args.told.now.items c.loop-line.told.items) (take_all _ _ c.loop-line-test.false) c.loop-line.invariant.answers
