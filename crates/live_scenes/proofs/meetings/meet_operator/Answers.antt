use Rattle.live_scenes.proofs.Together.{all_stand}
use Rattle.live_scenes.proofs.meetings.meet_operator.Goals as goal

pub returns-clause-together : goal.returns-clause-together
returns-clause-together g c =
    all_stand g.B.Journals.config c.args.worker.now.shards c.args.operator.now.shards c.meet_operator.new.self.shards c.meet_operator.new.operator.shards c.meet_operator.ensures.this
    c.meet_operator.ensures.that c.meet_operator.ensures.seen c.meet_operator.ensures.upholds c.meet_operator.ensures.operator_upholds
