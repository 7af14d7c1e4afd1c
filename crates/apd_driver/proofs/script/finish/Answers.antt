use Rattle.std.proofs.Common.{refl}
use Rattle.apd_driver.specs.Shows.{NotGathered, Part, Whole}
use Rattle.apd_driver.proofs.script.finish.Goals as goal

pub returns-in_default-clause-finishes : goal.returns-in_default-clause-finishes
returns-in_default-clause-finishes g c = NotGathered c.broken.result refl c.broken.ensures

pub returns-in-Ok-print_totals-clause-finishes : goal.returns-in-Ok-print_totals-clause-finishes
returns-in-Ok-print_totals-clause-finishes g c =
    Whole c.in-Ok.totals (record { reads = c.in-Ok.ensures.reads; all_told = c.in-Ok.ensures.all_told }) c.in-Ok-print_totals.ensures.whole

pub returns-in-Err-clause-finishes : goal.returns-in-Err-clause-finishes
returns-in-Err-clause-finishes g c =
    Part c.in-Ok.totals _ (record { reads = c.in-Ok.ensures.reads; all_told = c.in-Ok.ensures.all_told }) c.in-Err.ensures.beginning c.broken-in-Err.ensures
