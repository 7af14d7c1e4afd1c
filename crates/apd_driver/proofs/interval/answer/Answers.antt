use Rattle.apd_driver.specs.Shows.{BeforeThem, WithinThem}
use Rattle.apd_driver.proofs.Broken.{on_err}
use Rattle.apd_driver.proofs.Captured.{answers_malformed}
use Rattle.apd_driver.proofs.Gathering.{only_malformed}
use Rattle.apd_driver.proofs.interval.answer.Goals as goal
use Rattle.std.proofs.Common.{refl}

pub returns-clause-shows : goal.returns-clause-shows
returns-clause-shows g c =
    answers_malformed _ _ _ _ _ _ c.tell_malformed.new.told.items _ _
    (only_malformed _ _ _ c.new-told.ensures.items c.in_ok-tell_malformed.ensures.answers c.in_ok-tell_malformed.ensures.told) c.in_ok-found.ensures.prints

pub returns-in_err-found-clause-breaks : goal.returns-in_err-found-clause-breaks
returns-in_err-found-clause-breaks g c =
    on_err _ _ (WithinThem c.tell_malformed.new.told.items (only_malformed _ _ _ c.new-told.ensures.items c.in_ok-tell_malformed.ensures.answers c.in_ok-tell_malformed.ensures.told) c.in_err-found.ensures.breaks)

pub returns-in_err-tell_malformed-clause-breaks : goal.returns-in_err-tell_malformed-clause-breaks
returns-in_err-tell_malformed-clause-breaks g c = on_err _ _ (BeforeThem refl)
