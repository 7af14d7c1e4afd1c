use Rattle.ap_model.specs.declared.event.Event.TheVariants as event
use Rattle.ap_core.proofs.Pasts.{either}
use Rattle.ap_core.proofs.shard.Shard.receive.Goals as goal

pub invariant_of-self : goal.invariant_of-self
invariant_of-self g c =
    let was = c.args.self.now in
    record {
      history =
          either was.state c.receive.new.state was.config c.receive.ensures.shard was.history (λ o. o.outs.items) (event.Frame c.args.bytes.now)
          c.receive.result (λ o h. (h.asked, h.does)) (λ e h. h.0) c.receive.ensures.step c.receive.ensures.refused;
    }
