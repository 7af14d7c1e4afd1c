use Rattle.apd_driver.proofs.Broken.{on_err}
use Rattle.apd_driver.specs.Asking.{Answered, Begun}
use Rattle.apd_driver.proofs.questions.tell.Goals as goal

pub returns-clause-tells : goal.returns-clause-tells
returns-clause-tells g c = Answered _ _ c.in_ok-answer.answer c.in_ok-answer.ensures.answers c.in_ok-print_answer.ensures.whole

pub returns-in_err-print_answer-clause-breaks : goal.returns-in_err-print_answer-clause-breaks
returns-in_err-print_answer-clause-breaks g c =
    on_err _ _ (Begun _ _ c.in_ok-answer.answer c.in_ok-answer.ensures.answers c.in_err-print_answer.ensures.beginning)
