use Rattle.uses_link.proofs.Conclusions.{at_one}
use Rattle.uses_link.proofs.headline.decide.Goals as goal

pub returns : goal.returns
returns g c =
    record {
      headline =
          at_one g.J.Judge.gives c.link_law.ensures.shard c.args.shard.now c.handle.new.self c.args.event.now c.args.judge.now c.handle.new.judge
          c.in_ok-outs.outs.items c.stations-stations.ensures.history c.in_ok-outs.ensures.step;
    }
