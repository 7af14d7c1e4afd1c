use Rattle.apd_driver.proofs.Broken.{breaks_at_once}
use Rattle.apd_driver.proofs.threads.beside.Goals as goal
use Rattle.apd_driver.proofs.threads.beside.Goals.{then-started, else-started}

pub returns-clause-breaks : goal.returns-clause-breaks
returns-clause-breaks g c =
    elim c.if-started.branch [
      | then-started w ↦ rw w.found-is (rw w.writer-is w.run-found.ensures.breaks)
      | else-started w ↦ rw w.found-is (rw w.writer-is (breaks_at_once _ _ _ _))
    ]
