use Rattle.std.proofs.Common.{rules, ◌≡◌, Option, Some, sym, ap, subst, ◌∙◌}
use Rattle.apd_c.specs.declared.handle.Content.{Content}
use Rattle.apd_c.specs.Held.{held}
use Rattle.apd_c.specs.Outs.{user_of}
use Rattle.apd_c.specs.Events.{LeadsTo, event_of}
use Rattle.apd_c.proofs.events.lead_to.Goals as goal

pub returns-then-number-eq0-clause-serves : goal.returns-then-number-eq0-clause-serves
returns-then-number-eq0-clause-serves c =
    let put : held c.put.new.self ≡ Some c.lead_again-number.new.content = search rules in
    let s = c.lead_again-number.ensures.serves in
    record {
      led = λ done.
          subst (λ (o : Option Content). LeadsTo (event_of c.args.given.event) (held c.args.link.now) (held c.args.maps.now) o (held c.lead_again-number.new.link) (held c.lead_again-number.new.maps))
          (sym put) (s.led done);
      named = λ done. ap user_of put ∙ s.named done;
      link = λ refused. absurd (refused c.if-number-eq0.true);
      maps_stay = λ refused. absurd (refused c.if-number-eq0.true);
      outs_stay = λ refused. absurd (refused c.if-number-eq0.true);
    }

pub returns-else-number-eq0-clause-serves : goal.returns-else-number-eq0-clause-serves
returns-else-number-eq0-clause-serves c =
    let s = c.lead_again-number.ensures.serves in
    record {
      led = λ done. absurd (c.if-number-eq0.false done);
      named = λ done. absurd (c.if-number-eq0.false done);
      link = s.link;
      maps_stay = s.maps_stay;
      outs_stay = search rules;
    }
