use Rattle.std.proofs.Common.{refl}
use Rattle.apd_run.specs.Loading.{NotAdmitted, NoRoomToLoad}
use Rattle.apd_run.proofs.Putting.{loaded}
use Rattle.apd_run.proofs.loads.programs.Loads.load_program.Goals as goal

pub returns-in-NoMemory : goal.returns-in-NoMemory
returns-in-NoMemory g c = NoRoomToLoad refl

pub returns-in_default : goal.returns-in_default
returns-in_default g c =
    rw c.refused_told.ensures
    (NotAdmitted c.in-Err.refusal (record {
      reason = c.in_default.not-NoMemory;
      of_verifier = c.in-Err.ensures.refused;
      unchanged = refl;
    }))

pub returns-in-Ok : goal.returns-in-Ok
returns-in-Ok g c = loaded _ _ c.in-Ok.accepted _ _ _ _ c.in-Ok.ensures.code c.in-Ok.ensures.budget.small c.put_in_force-told.ensures
