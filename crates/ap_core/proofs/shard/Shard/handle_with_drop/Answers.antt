use Rattle.std.proofs.Common.{[]}
use Rattle.ap_model.specs.declared.event.Event.TheVariants as event
use Rattle.ap_core.proofs.Pasts.{either}
use Rattle.ap_core.proofs.shard.Shard.handle_with_drop.Goals as goal

pub returns-in-Frame-clause-step : goal.returns-in-Frame-clause-step
returns-in-Frame-clause-step g c = rw c.in-Frame.is (rw c.bytes.ensures at c.receive.ensures.step)

pub invariant_of-self : goal.invariant_of-self
invariant_of-self g c =
    let was = c.args.self.now in
    record {
      history =
          either was.state c.on_close.new.state was.config c.on_close.ensures.shard was.history (λ outs. outs.items)
          (event.Close c.in-Close.station c.in-Close.tid) c.on_close.result (λ outs h. ([], h)) (λ e h. h) c.on_close.ensures.step c.on_close.ensures.refused;
    }
