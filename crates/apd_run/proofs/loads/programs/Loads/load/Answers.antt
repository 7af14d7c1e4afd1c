use Rattle.std.proofs.Common.{refl}
use Rattle.apd_run.specs.Loading.{Read, NotRead, NoRoomToRead}
use Rattle.apd_run.proofs.KeptCode.{LoadsCode-kept}
use Rattle.apd_run.proofs.loads.programs.Loads.load.Goals as goal

pub returns-in-Ok-clause-loads : goal.returns-in-Ok-clause-loads
returns-in-Ok-clause-loads g c =
    let h = c.in-Ok.ensures.code in
    Read h.code c.load_code-told.result h.held (LoadsCode-kept _ _ _ _ h.code _ _ h.keeps (rw c.as_slice.ensures.value at c.load_code-told.ensures))

pub returns-in-NoMemory-clause-loads : goal.returns-in-NoMemory-clause-loads
returns-in-NoMemory-clause-loads g c = NoRoomToRead refl

pub returns-in_default-clause-loads : goal.returns-in_default-clause-loads
returns-in_default-clause-loads g c =
    NotRead c.in-Err.fault c.in_default.not-NoMemory c.in-Err.ensures.fault refl
