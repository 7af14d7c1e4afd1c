use Rattle.live_scenes.proofs.Keeping.{chief_reached}
use Rattle.live_scenes.proofs.hands.Chief.read.Goals as goal

pub invariant_of-self : goal.invariant_of-self
invariant_of-self g c =
    let was = c.args.self.now in
    record { is_chief = chief_reached was.ap.now was.token.value c.deref_mut.result.now c.read.new.operator c.deref_mut.ensures.value was.is_chief c.read.ensures.own c.read.ensures.same }
