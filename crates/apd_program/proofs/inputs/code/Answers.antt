use Rattle.apd_program.proofs.Faulty.{code_at_fault}
use Rattle.apd_program.proofs.inputs.code.Goals as goal

pub returns-in-Err-clause-fault : goal.returns-in-Err-clause-fault
returns-in-Err-clause-fault g c = code_at_fault _ _ _ c.in-Err.fault _ c.in-Err.ensures.fault c.of_no_code.ensures.memory
