use Rattle.apd_program.proofs.Evaluated.{no_configuration}
use Rattle.apd_program.proofs.eval.evaluate.Goals as goal

pub returns-in-None-clause-fault : goal.returns-in-None-clause-fault
returns-in-None-clause-fault g c = no_configuration _ _ _ _ c.args.evaluation.subject.source.config c.in-None.is
