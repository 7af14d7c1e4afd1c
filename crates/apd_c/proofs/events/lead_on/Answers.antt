use Rattle.std.proofs.Common.{rules}
use Rattle.apd_c.specs.Events.{kept}
use Rattle.apd_c.proofs.events.lead_on.Goals as goal

pub returns-in-Maps-clause-ok : goal.returns-in-Maps-clause-ok
returns-in-Maps-clause-ok c done = (c.deref_mut.result.now, c.lead_at.new.maps, search rules, search rules, c.lead_at.ensures.ok done)

pub returns-in-Maps-clause-kept : goal.returns-in-Maps-clause-kept
returns-in-Maps-clause-kept c refused =
    let h = c.lead_at.ensures.kept refused in
    (h.0, kept c.deref_mut.result.now c.lead_at.new.maps (search rules) (search rules) h.1)
