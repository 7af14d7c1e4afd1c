use Rattle.std.proofs.Common.{[], refl}
use Rattle.apd_driver.specs.Shows.{InReports}
use Rattle.apd_driver.proofs.Broken.{on_err}
use Rattle.apd_driver.proofs.Gathering.{breaks_before}
use Rattle.apd_driver.proofs.input.Input.do_lines.Goals as goal

pub returns-in_err-batch-clause-breaks : goal.returns-in_err-batch-clause-breaks
returns-in_err-batch-clause-breaks g c = on_err _ _ (InReports [] [] (breaks_before _ [] [] _ _ _ refl))
