use Rattle.ap_core.specs.AccessPoints.{rules_of, readings_of, outs_in}
use Rattle.ap_core.proofs.AccessLaws.{have_histories}
use Rattle.uses_link.proofs.Conclusions.{from_before}
use Rattle.uses_link.proofs.headline.go_on.Goals as goal

pub returns-clause-headline : goal.returns-clause-headline
returns-clause-headline g c =
    let old = c.args.shards.now in
    from_before g.J.Judge.gives c.link_law.ensures.access_point old c.handle_all.new.shards c.args.events.now c.args.judge.now c.handle_all.new.judge
    (outs_in c.in_ok-results.results.items) c.requires.place
    (c.link_law.ensures.histories (rules_of old) (readings_of old) (have_histories old c.told-shards)) c.in_ok-results.ensures.run
