use Rattle.std.proofs.Common.{rules, refl}
use Rattle.apd_c.proofs.events.lead_again.Goals as goal

pub returns-then-number-eq0-clause-serves : goal.returns-then-number-eq0-clause-serves
returns-then-number-eq0-clause-serves c =
    record {
      led = λ done. c.lead_over-number.ensures.ok done;
      named = λ done. refl;
      link = λ refused. absurd (refused c.if-number-eq0.true);
      maps_stay = λ refused. absurd (refused c.if-number-eq0.true);
      outs_stay = λ refused. absurd (refused c.if-number-eq0.true);
    }

pub returns-else-number-eq0-clause-serves : goal.returns-else-number-eq0-clause-serves
returns-else-number-eq0-clause-serves c =
    record {
      led = λ done. absurd (c.if-number-eq0.false done);
      named = λ done. absurd (c.if-number-eq0.false done);
      link = λ refused. (c.lead_over-number.ensures.kept refused).0;
      maps_stay = λ refused. (c.lead_over-number.ensures.kept refused).1;
      outs_stay = λ refused. rw (c.lead_over-number.ensures.outs refused) (search rules);
    }
