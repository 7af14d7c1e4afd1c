use Rattle.apd_program.proofs.Performing.{Performs-delivered, Performs-complained}
use Rattle.apd_program.proofs.program.respond.Goals as goal

pub returns-in-Ok : goal.returns-in-Ok
returns-in-Ok g c = record { is = Performs-delivered _ _ c.in-Ok.answer _ _ _ _ _ c.in-Ok.ensures.answer c.deliver-delivered.ensures.out c.conclude-status.ensures.is }

pub returns : goal.returns
returns g c = record { is = Performs-complained _ _ _ _ c.in-Err.fault _ c.in-Err.ensures.fault c.complain.ensures.is }
