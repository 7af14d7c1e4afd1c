use Rattle.apd_program.proofs.Performing.{Performs-delivered, Performs-complained}
use Rattle.apd_program.proofs.case_files.judge_cases.Goals as goal

pub returns-in-Ok : goal.returns-in-Ok
returns-in-Ok g c = record { is = Performs-delivered _ _ c.in-Ok.answer _ _ _ _ _ c.in-Ok.ensures.tested c.deliver-delivered.ensures.out c.conclude.ensures.is }

pub returns-in-Err : goal.returns-in-Err
returns-in-Err g c = record { is = Performs-complained _ _ _ _ c.in-Err.fault _ c.in-Err.ensures.fault c.complain.ensures.is }
