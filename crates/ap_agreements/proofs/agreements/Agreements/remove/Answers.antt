use Rattle.std.proofs.Common.{ap}
use Rattle.ap_agreements.specs.Tables.{Table}
use Rattle.ap_agreements.proofs.Places.{not_found}
use Rattle.ap_agreements.proofs.Edits.{got, key_there, after_remove}
use Rattle.ap_agreements.proofs.Lookups.{still_none}
use Rattle.ap_agreements.proofs.agreements.Agreements.remove.Goals as goal

pub returns-in-Ok-clause-was : goal.returns-in-Ok-clause-was
returns-in-Ok-clause-was c =
    let e = ap (λ (t : Table). t.kept) c.self.view_is in (
      got c.self.inside.entries.items c.args.self.now.kept e c.self.invariant c.args.station c.args.tid c.in-Ok.at c.in-Ok.ensures.found c.remove.result c.remove.ensures.value,
      key_there c.self.inside.entries.items c.args.self.now.kept e c.self.invariant c.args.station c.args.tid c.in-Ok.at c.in-Ok.ensures.found c.remove.result c.remove.ensures.value,
    )

pub returns-in-Ok-clause-sets : goal.returns-in-Ok-clause-sets
returns-in-Ok-clause-sets c =
    let e = ap (λ (t : Table). t.kept) c.self.view_is in
    rw c.remove.ensures.items
    (after_remove c.self.inside.entries.items c.args.self.now.kept e c.self.invariant c.args.station c.args.tid c.in-Ok.at c.in-Ok.ensures.found c.remove.result)

pub returns-in-Err-clause-was : goal.returns-in-Err-clause-was
returns-in-Err-clause-was c = not_found c.args.self.now.kept c.in-Err.ensures.rising (c.args.station, c.args.tid) c.in-Err.field-0 c.in-Err.ensures.absent

pub returns-in-Err-clause-sets : goal.returns-in-Err-clause-sets
returns-in-Err-clause-sets c =
    still_none c.args.self.now.kept c.args.station c.args.tid
    (not_found c.args.self.now.kept c.in-Err.ensures.rising (c.args.station, c.args.tid) c.in-Err.field-0 c.in-Err.ensures.absent)
