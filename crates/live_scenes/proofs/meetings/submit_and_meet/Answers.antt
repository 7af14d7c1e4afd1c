use Rattle.std.proofs.Common.{ap}
use Rattle.ap_live.specs.Tokens.{Worker}
use Rattle.live_scenes.proofs.Took.{took_only}
use Rattle.live_scenes.proofs.meetings.submit_and_meet.Goals as goal

pub returns-clause-took : goal.returns-clause-took
returns-clause-took g c =
    took_only c.args.ap.now c.args.worker.now c.meet.new.worker c.args.operator.now c.submit.new.operator c.meet.new.operator c.args.told.0 c.args.told.1 c.requires.new
    c.in_ok-submit.ensures.put c.meet.ensures.order c.meet.ensures.taken (ap (λ (w : Worker). w.number) c.meet.ensures.same) c.meet.ensures.numbers
