use Rattle.std.proofs.Common.{refl}
use Rattle.apd_script.proofs.line.read_line.Goals as goal

pub returns-in-Some-clause-well_formed : goal.returns-in-Some-clause-well_formed
returns-in-Some-clause-well_formed c =
    let reads = c.in-Some.ensures.reads c.args.shapes.now in
    (λ h. record { utf8 = c.in-Some.ensures.utf8 refl; said = rw reads.said refl }, λ h. refl)

pub returns-in-Some-clause-within : goal.returns-in-Some-clause-within
returns-in-Some-clause-within c =
    let reads = c.in-Some.ensures.reads c.args.shapes.now in
    reads.within
