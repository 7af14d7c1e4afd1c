use Rattle.apd_program.proofs.Evaluated.{no_configuration}
use Rattle.apd_program.proofs.Repeated.{of_one, two_programs}
use Rattle.apd_program.proofs.repeat.repeat.Goals as goal

pub returns-in-Some-clause-fault : goal.returns-in-Some-clause-fault
returns-in-Some-clause-fault g c = two_programs _ _ _ c.args.repetition.evaluation.against c.in-Some._old _ c.in-Some.is

pub returns-in-None-clause-fault : goal.returns-in-None-clause-fault
returns-in-None-clause-fault g c = of_one _ _ _ _ _ _ (no_configuration _ _ _ _ c.args.repetition.evaluation.subject.source.config c.in-None.is)
