use Rattle.std.proofs.Common.{inr, refl}
use Rattle.apd_run.proofs.access.run.without_memory.Goals as goal

pub returns : goal.returns
returns g c = record { same = refl; broken = inr refl }
