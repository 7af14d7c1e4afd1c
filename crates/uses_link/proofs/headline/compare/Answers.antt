use Rattle.ap_core.specs.AccessPoints.{outs_in}
use Rattle.uses_link.proofs.Conclusions.{side_by_side}
use Rattle.uses_link.proofs.headline.compare.Goals as goal

pub returns : goal.returns
returns g c =
    let one = c.in_ok-first.ensures.headline in
    let other = c.in_ok-second.ensures.headline in
    record {
      headline =
          record {
            one = one;
            other = other;
            windows =
                side_by_side g.J.Judge.gives c.link_law.ensures.windows c.args.config.now c.args.events.now c.args.one.now c.serve.new.judge c.args.other.now
                c.serve-2.new.judge (outs_in c.in_ok-first.first.items) (outs_in c.in_ok-second.second.items) one other;
          };
    }
