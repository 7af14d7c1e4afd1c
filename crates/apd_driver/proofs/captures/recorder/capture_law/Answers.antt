use Rattle.apd_driver.proofs.Recalled.{recalled}
use Rattle.apd_driver.proofs.captures.recorder.capture_law.Goals as goal

pub returns : goal.returns
returns c = record { read = recalled c.written_law.ensures.read }
