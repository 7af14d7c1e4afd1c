use Rattle.apd_program.specs.Certifying.{IsChecked}
use Rattle.apd_program.proofs.Said.{IsOfProgram-decoded, IsOfProgram-undecoded}
use Rattle.apd_program.proofs.certificates.check.Goals as goal

pub returns-in-Ok-clause-checked : goal.returns-in-Ok-clause-checked
returns-in-Ok-clause-checked c = IsOfProgram-decoded (IsChecked c.args.inquiry.hook c.args.inquiry.bytes.now c.args.inquiry.work) _ _ _ c.in-Ok.program c.in-Ok.ensures.ok c.in-Ok.ensures.shapes c.checked.ensures.checked

pub returns-in-Err-clause-checked : goal.returns-in-Err-clause-checked
returns-in-Err-clause-checked c = IsOfProgram-undecoded (IsChecked c.args.inquiry.hook c.args.inquiry.bytes.now c.args.inquiry.work) _ _ _ c.in-Err.fault c.in-Err.ensures.err c.undecoded.ensures.fault
