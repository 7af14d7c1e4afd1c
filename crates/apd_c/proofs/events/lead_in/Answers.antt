use Rattle.std.proofs.Common.{rules}
use Rattle.apd_c.specs.Events.{like}
use Rattle.apd_c.proofs.events.lead_in.Goals as goal

pub returns-in-Link-clause-kept : goal.returns-in-Link-clause-kept
returns-in-Link-clause-kept c refused =
    let h = c.lead.ensures.kept refused in
    (like c.deref_mut.result.now c.lead.new.access_point (search rules) (search rules) h.0, h.1)
