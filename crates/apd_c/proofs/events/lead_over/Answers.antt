use Rattle.std.proofs.Common.{rules, ◌≡◌, Option, Some, sym, subst}
use Rattle.apd_c.specs.declared.handle.Content.{Content}
use Rattle.apd_c.specs.Held.{held}
use Rattle.apd_c.specs.Lending.{with_content}
use Rattle.apd_c.specs.Events.{HasLedTo, Stays, event_of}
use Rattle.apd_c.proofs.events.lead_over.Goals as goal

pub returns-in-Some-clause-ok : goal.returns-in-Some-clause-ok
returns-in-Some-clause-ok c done =
    let before : held c.args.maps.now ≡ Some c.in-Some.content.now = search rules in
    let after : held (with_content c.args.maps.now c.lead_on.new.content) ≡ Some c.lead_on.new.content = search rules in
    subst (λ (o : Option Content). HasLedTo (event_of c.args.event) (held c.args.link.now) o c.lead_on.new.outs.items (held c.lead_on.new.link) (held (with_content c.args.maps.now c.lead_on.new.content))) (sym before)
    (subst (λ (o : Option Content). HasLedTo (event_of c.args.event) (held c.args.link.now) (Some c.in-Some.content.now) c.lead_on.new.outs.items (held c.lead_on.new.link) o) (sym after) (c.lead_on.ensures.ok done))

pub returns-in-Some-clause-kept : goal.returns-in-Some-clause-kept
returns-in-Some-clause-kept c refused =
    let before : held c.args.maps.now ≡ Some c.in-Some.content.now = search rules in
    let after : held (with_content c.args.maps.now c.lead_on.new.content) ≡ Some c.lead_on.new.content = search rules in
    let h = c.lead_on.ensures.kept refused in
    (h.0, subst (λ (o : Option Content). Stays o (held (with_content c.args.maps.now c.lead_on.new.content))) (sym before) (subst (λ (o : Option Content). Stays (Some c.in-Some.content.now) o) (sym after) h.1))
