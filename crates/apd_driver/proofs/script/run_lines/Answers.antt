use Rattle.apd_driver.specs.Shows.{Ends, Fails}
use Rattle.apd_driver.proofs.Kept.{keeps_broken, keeps_whole}
use Rattle.apd_driver.proofs.script.run_lines.Goals as goal

pub returns-in-Ok : goal.returns-in-Ok
returns-in-Ok g c =
    let found = c.in-Ok.found in
    record {
      runs = Ends _ _ found.memory found.refused c.finish-status.result (rw c.in-Ok.is at c.run-staff.ensures.shows)
          (rw c.ended-own.ensures at c.finish-status.ensures.finishes);
      keeps = keeps_whole _ _ _ _ _ _ _ _ _ _ _ (rw c.in-Ok.is at c.run-staff.ensures.keeps) c.finish-status.ensures.finishes c.finish-status.ensures.kept;
    }

pub returns-in-Err : goal.returns-in-Err
returns-in-Err g c =
    record { runs = Fails c.broken.result (rw c.in-Err.is at c.run-staff.ensures.breaks) c.broken.ensures; keeps = keeps_broken _ _ _ _ _ _ _ c.broken.ensures }
