use Rattle.std.proofs.Common.{[], arith}
use Rattle.ap_core.proofs.AccessLaws.{handled_one, refused_there}
use Rattle.ap_core.proofs.access_point.handle_at.Goals as goal

pub returns-in-Ok : goal.returns-in-Ok
returns-in-Ok g c =
    handled_one g.J.Judge.gives c.args.shards.now c.args.at (omega (arith, c.requires.fits, c.told-shards)) c.index-shards-at.result c.handle.new.self
    c.args.event.now c.args.judge.now c.handle.new.judge c.in-Ok.outs.items c.requires.concerns c.in-Ok.ensures.step c.handle.ensures.rules

pub returns-in-Err : goal.returns-in-Err
returns-in-Err g c =
    refused_there g.J.Judge.gives c.args.shards.now c.args.at (omega (arith, c.requires.fits, c.told-shards)) c.index-shards-at.result c.handle.new.self
    c.args.event.now c.args.judge.now c.handle.new.judge [] c.in-Err.ensures.refused.0 c.in-Err.ensures.refused.1
