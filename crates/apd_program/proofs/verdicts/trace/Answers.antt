use Rattle.apd_program.specs.Verifying.{IsRunWithin}
use Rattle.apd_program.proofs.Said.{IsOfProgram-decoded, IsOfProgram-undecoded}
use Rattle.apd_program.proofs.verdicts.trace.Goals as goal

pub returns-in-Ok-clause-run : goal.returns-in-Ok-clause-run
returns-in-Ok-clause-run c = IsOfProgram-decoded (IsRunWithin c.args.stimulus.terms c.args.stimulus.frame.now c.args.stimulus.context.now c.args.stimulus.draw) _ _ _ c.in-Ok.program c.in-Ok.ensures.ok c.in-Ok.ensures.shapes c.run.ensures.run

pub returns-clause-run : goal.returns-clause-run
returns-clause-run c = IsOfProgram-undecoded (IsRunWithin c.args.stimulus.terms c.args.stimulus.frame.now c.args.stimulus.context.now c.args.stimulus.draw) _ _ _ c.in-Err.fault c.in-Err.ensures.err c.undecoded.ensures.fault
