use Rattle.std.proofs.Common.{ap, sym, ◌∙◌, arith, refl}
use Rattle.apd_driver.specs.Crews.{Crew, with_work}
use Rattle.apd_driver.proofs.Followed.{feeds_more, feeds_nothing}
use Rattle.apd_driver.proofs.Tallying.{tells_more, tells_none}
use Rattle.apd_driver.proofs.Waits.{at_line}
use Rattle.apd_driver.proofs.feed.feed.Goals as goal

pub lines-init : goal.lines-init
lines-init g c =
    record {
      on = omega arith;
      within = omega (arith, c.requires.more);
      rest = refl;
      works = refl;
      follows = feeds_nothing _ _ c.args.commands.now c.args.start _ _ refl;
      told = tells_none _;
    }

pub lines-preserved : goal.lines-preserved
lines-preserved g c =
    record {
      on = omega (arith, c.lines.invariant.on);
      within = omega (arith, c.lines-test.true);
      rest = sym (at_line c.args.commands.now c.lines.next _ c.lines-test.true c.index-commands-next.is (sym c.in_ok-waits.ensures.waits ∙ c.if-waits.false)) ∙ c.lines.invariant.rest;
      works = c.in_ok-waits.ensures.works ∙ ap (λ (x : Crew g.O.Operating.semantics). with_work x (g.O.Operating.crew c.follow.new.operator).work) c.lines.invariant.works;
      follows = feeds_more _ _ _ _ c.args.commands.now c.args.start c.lines.next _ _ _ _ c.lines.invariant.on c.lines-test.true c.index-commands-next.is c.lines.invariant.follows c.in_ok-waits.ensures.follows;
      told = tells_more _ _ _ c.lines.invariant.told c.in_ok-waits.ensures.told;
    }

pub returns-then-waits-clause-follows : goal.returns-then-waits-clause-follows
returns-then-waits-clause-follows g c =
    feeds_more _ _ _ _ c.args.commands.now c.args.start c.lines.next _ _ _ _ c.lines.invariant.on c.lines-test.true c.index-commands-next.is c.lines.invariant.follows c.in_ok-waits.ensures.follows
