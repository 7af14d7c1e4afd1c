use Rattle.apd_program.specs.Texts.{Assembled, NotAssembled}
use Rattle.apd_program.proofs.texts.assembled.Goals as goal

pub returns-in-Ok-clause-assembly : goal.returns-in-Ok-clause-assembly
returns-in-Ok-clause-assembly c = Assembled c.in-Ok.code c.utf8.text c.in-Ok.ensures.ok

pub returns-in_default-clause-assembly : goal.returns-in_default-clause-assembly
returns-in_default-clause-assembly c = NotAssembled c.in-Err.fault c.utf8.text c.in_default.not-NoMemory c.in-Err.ensures.err
