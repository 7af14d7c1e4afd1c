use Rattle.std.proofs.Common.{rules, ◌≡◌, Option, Some, sym, subst}
use Rattle.apd_c.specs.declared.handle.Content.{Content}
use Rattle.apd_c.specs.Held.{held}
use Rattle.apd_c.specs.Lending.{with_content}
use Rattle.apd_c.specs.Events.{Stays}
use Rattle.apd_c.proofs.events.lead_at.Goals as goal

pub returns-in-Some-clause-kept : goal.returns-in-Some-clause-kept
returns-in-Some-clause-kept c refused =
    let before : held c.args.link.now ≡ Some c.in-Some.content.now = search rules in
    let after : held (with_content c.args.link.now c.lead_in.new.content) ≡ Some c.lead_in.new.content = search rules in
    let h = c.lead_in.ensures.kept refused in
    (subst (λ (o : Option Content). Stays o (held (with_content c.args.link.now c.lead_in.new.content))) (sym before) (subst (λ (o : Option Content). Stays (Some c.in-Some.content.now) o) (sym after) h.0), h.1)
