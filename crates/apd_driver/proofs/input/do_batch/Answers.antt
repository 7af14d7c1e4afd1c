use Rattle.apd_driver.proofs.Broken.{on_err}
use Rattle.std.proofs.Common.{◌∙◌, ap, sym}
use Rattle.apd_driver.specs.Crews.{Crew}
use Rattle.apd_driver.specs.Shows.{InReports, InAnswer}
use Rattle.apd_driver.proofs.Kept.{keeps_answer}
use Rattle.apd_driver.proofs.Waits.{same_after}
use Rattle.apd_driver.proofs.input.do_batch.Goals as goal

pub whole_interval-requires-clause-whole : goal.whole_interval-requires-clause-whole
whole_interval-requires-clause-whole g c = rw c.as_slice.ensures.value (sym (same_after c.args.batch.now.commands.items) ∙ c.requires.whole)

pub returns-clause-shows : goal.returns-clause-shows
returns-clause-shows g c =
    record { lines = _; malformed = _; mid = _; before = _; shows = c.in_ok-found.ensures.shows.shows; tells = c.in_ok-tell.ensures.tells; looks = c.tell.ensures.looks }

pub returns-clause-workers : goal.returns-clause-workers
returns-clause-workers g c = ap (λ (k : Crew g.O.Operating.semantics). k.workers) c.tell.ensures.looks.works ∙ c.in_ok-found.ensures.workers

pub returns-in_err-found-clause-breaks : goal.returns-in_err-found-clause-breaks
returns-in_err-found-clause-breaks g c =
    on_err _ _ (InReports _ _ c.in_err-found.ensures.breaks)

pub returns-in_err-tell-clause-breaks : goal.returns-in_err-tell-clause-breaks
returns-in_err-tell-clause-breaks g c =
    on_err _ _ (InAnswer _ _ _ _ _ _ c.in_ok-found.ensures.shows.shows c.in_err-tell.ensures.breaks)

pub returns-clause-keeps : goal.returns-clause-keeps
returns-clause-keeps g c = keeps_answer _ _ _ _ _ _ _ _ _ _ _ _ _ _ c.in_ok-found.ensures.shows c.in_ok-tell.ensures.tells c.tell.ensures.kept
