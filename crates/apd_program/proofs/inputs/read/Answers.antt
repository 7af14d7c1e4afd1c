use Rattle.apd_program.proofs.Faulty.{file_at_fault}
use Rattle.apd_program.proofs.inputs.read.Goals as goal

pub returns-in-Err-clause-fault : goal.returns-in-Err-clause-fault
returns-in-Err-clause-fault g c = file_at_fault c.args.kind _ c.in-Err.why _ c.in-Err.ensures.unread c.of_file.ensures.memory
