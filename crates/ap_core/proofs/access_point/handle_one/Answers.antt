use Rattle.ap_core.proofs.AccessLaws.{tick_runs}
use Rattle.ap_core.proofs.access_point.handle_one.Goals as goal

pub returns-in-Tick : goal.returns-in-Tick
returns-in-Tick g c =
    rw c.in-Tick.is
    (tick_runs g.J.Judge.gives c.args.judge.now c.in-Tick.units c.args.shards.now c.tick_all.new.shards c.tick_all.result c.tick_all.ensures c.told-shards)
