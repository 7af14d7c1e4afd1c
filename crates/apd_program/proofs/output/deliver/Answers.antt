use Rattle.apd_program.specs.Delivered.{Printed}
use Rattle.apd_program.proofs.Delivering.{for_file, is_named, goes, goes_out, unprinted, stored, stores}
use Rattle.apd_program.proofs.output.deliver.Goals as goal

pub returns-in-Some-clause-out : goal.returns-in-Some-clause-out
returns-in-Some-clause-out g c =
    let named = rw c.is_output-is_output.ensures.is at c.in-Some.ensures.is in
    stored c.args.answer _ _ c.status-status.result c.save.result (for_file _ _ _ named) c.status-status.ensures.is c.save.ensures.status

pub returns-in-Some-clause-saved : goal.returns-in-Some-clause-saved
returns-in-Some-clause-saved g c =
    let named = rw c.is_output-is_output.ensures.is at c.in-Some.ensures.is in
    stores c.args.answer _ c.in-Some.path.now _ _ c.save.result (is_named _ _ _ named) (goes _ _ _ named) (for_file _ _ _ named) c.save.ensures.saved c.save.ensures.memory

pub returns-in-Ok-clause-out : goal.returns-in-Ok-clause-out
returns-in-Ok-clause-out g c =
    rw c.status-status.ensures.is
    (Printed (goes_out _ _ (rw c.is_output-is_output.ensures.is at c.in-None.ensures.is)) c.in-Ok.ensures.whole)

pub returns-in-Err-clause-out : goal.returns-in-Err-clause-out
returns-in-Err-clause-out g c = unprinted c.args.answer _ _ _ c.in-Err.undelivered c.in-Err.ensures.beginning c.in-Err.ensures.memory
