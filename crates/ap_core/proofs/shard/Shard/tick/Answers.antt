use Rattle.std.proofs.Common.{[]}
use Rattle.ap_model.specs.declared.event.Event.TheVariants as event
use Rattle.ap_core.proofs.Pasts.{went_on}
use Rattle.ap_core.proofs.shard.Shard.tick.Goals as goal

pub invariant_of-self : goal.invariant_of-self
invariant_of-self c =
    let was = c.args.self.now in
    record {
      history =
          went_on was.state c.tick.new.state was.config c.tick.ensures.shard was.history (event.Tick c.args.units) [] c.tick.ensures.step.more c.tick.ensures.step.step;
    }
