use Rattle.live_scenes.proofs.Together.{all_stand}
use Rattle.live_scenes.proofs.meetings.meet_workers.Goals as goal

pub returns-clause-together : goal.returns-clause-together
returns-clause-together g c =
    all_stand g.B.Journals.config c.args.one.now.shards c.args.other.now.shards c.meet.new.self.shards c.meet.new.other.shards c.meet.ensures.this c.meet.ensures.that c.meet.ensures.seen
    c.meet.ensures.upholds c.meet.ensures.other_upholds
