use Rattle.ap_core.specs.AccessPoints.{outs_in}
use Rattle.uses_link.proofs.Conclusions.{from_nobody}
use Rattle.uses_link.proofs.headline.serve.Goals as goal

pub returns-clause-headline : goal.returns-clause-headline
returns-clause-headline g c =
    from_nobody g.J.Judge.gives c.link_law.ensures.access_point c.args.config.now c.in_ok-shards.shards c.handle_all.new.shards c.args.events.now
    c.args.judge.now c.handle_all.new.judge (outs_in c.in_ok-results.results.items) c.in_ok-shards.ensures.fresh c.in_ok-shards.ensures.place
    c.in_ok-results.ensures.run
