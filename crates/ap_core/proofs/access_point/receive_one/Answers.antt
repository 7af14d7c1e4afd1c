use Rattle.std.proofs.Common.{[], ap, Some, sym, arith}
use Rattle.ap_model.specs.declared.event.Event.TheVariants as event
use Rattle.ap_core.proofs.AccessLaws.{handled_one, refused_there}
use Rattle.ap_core.proofs.access_point.receive_one.Goals as goal

pub returns-in-Ok : goal.returns-in-Ok
returns-in-Ok g c =
    let told = c.in-Ok.ensures.step in
    handled_one g.J.Judge.gives c.args.shards.now c.shard_of_bytes.result (omega (arith, c.shard_of_bytes.ensures.fits, c.told-shards)) c.index-shards-shard_of_bytes.result c.receive.new.self
    (event.Frame c.args.bytes.now) c.args.judge.now c.receive.new.judge c.in-Ok.outcome.outs.items (ap (λ n. Some n) (sym c.shard_of_bytes.ensures.is))
    (record { asked = told.asked; listed = told.listed; does = told.does }) c.receive.ensures.rules

pub returns-in-Err : goal.returns-in-Err
returns-in-Err g c =
    refused_there g.J.Judge.gives c.args.shards.now c.shard_of_bytes.result (omega (arith, c.shard_of_bytes.ensures.fits, c.told-shards)) c.index-shards-shard_of_bytes.result c.receive.new.self
    (event.Frame c.args.bytes.now) c.args.judge.now c.receive.new.judge [] c.in-Err.ensures.refused.0 c.in-Err.ensures.refused.1
