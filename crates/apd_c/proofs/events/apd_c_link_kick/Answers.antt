use Rattle.std.proofs.Common.{subst}
use Rattle.ap_model.specs.declared.event.Event.{Event}
use Rattle.ap_model.specs.declared.event.Event.TheVariants as event
use Rattle.apd_c.specs.Held.{held}
use Rattle.apd_c.specs.Events.{Serves}
use Rattle.apd_c.proofs.events.apd_c_link_kick.Goals as goal

pub returns-clause-serves : goal.returns-clause-serves
returns-clause-serves c =
    subst (λ (e : Event). Serves e c.args.user (held c.args.link.now) (held c.args.maps.now) (held c.args.outs.now) c.lead_to.result (held c.lead_to.new.link) (held c.lead_to.new.maps) (held c.lead_to.new.outs))
    (λ i. event.Kick (c.new.ensures i) (c.new-2.ensures i)) c.lead_to.ensures.serves
