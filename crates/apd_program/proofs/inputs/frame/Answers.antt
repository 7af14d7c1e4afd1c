use Rattle.apd_program.proofs.Faulty.{frame_at_fault}
use Rattle.apd_program.proofs.inputs.frame.Goals as goal

pub returns-in-Err-clause-fault : goal.returns-in-Err-clause-fault
returns-in-Err-clause-fault c = frame_at_fault c.args.word.now c.in-Err.fault _ c.in-Err.ensures.err c.of_digits.ensures.memory
