use Rattle.std.proofs.Common.{ap}
use Rattle.ap_agreements.specs.Tables.{Table}
use Rattle.ap_agreements.proofs.Places.{not_found}
use Rattle.ap_agreements.proofs.Edits.{stands}
use Rattle.ap_agreements.proofs.agreements.Agreements.get_placed.Goals as goal

pub returns-in-Ok : goal.returns-in-Ok
returns-in-Ok c =
    stands c.self.inside.entries.items c.args.self.now.kept (ap (λ (t : Table). t.kept) c.self.view_is) c.self.invariant
    c.args.station c.args.tid c.in-Ok.at c.in-Ok.ensures.found c.index.result.now c.index.ensures

pub returns-in-Err : goal.returns-in-Err
returns-in-Err c = not_found c.args.self.now.kept c.in-Err.ensures.rising (c.args.station, c.args.tid) c.in-Err.field-0 c.in-Err.ensures.absent
