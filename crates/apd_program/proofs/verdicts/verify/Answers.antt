use Rattle.apd_program.specs.Verifying.{IsVerified}
use Rattle.apd_program.proofs.Said.{IsOfProgram-decoded, IsOfProgram-undecoded}
use Rattle.apd_program.proofs.verdicts.verify.Goals as goal

pub returns-in-Ok-clause-verdict : goal.returns-in-Ok-clause-verdict
returns-in-Ok-clause-verdict c = IsOfProgram-decoded (IsVerified c.args.terms) _ _ _ c.in-Ok.program c.in-Ok.ensures.ok c.in-Ok.ensures.shapes c.admitted.ensures.verdict

pub returns-clause-verdict : goal.returns-clause-verdict
returns-clause-verdict c = IsOfProgram-undecoded (IsVerified c.args.terms) _ _ _ c.in-Err.fault c.in-Err.ensures.err c.undecoded.ensures.fault
