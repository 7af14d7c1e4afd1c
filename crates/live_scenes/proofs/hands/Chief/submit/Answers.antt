use Rattle.live_scenes.proofs.Keeping.{chief_put}
use Rattle.live_scenes.proofs.hands.Chief.submit.Goals as goal

pub invariant_of-self : goal.invariant_of-self
invariant_of-self g c =
    let was = c.args.self.now in
    record { is_chief = chief_put was.ap.now was.token.value c.deref_mut.result.now c.submit.new.operator c.deref_mut.ensures.value was.is_chief c.submit.ensures.own c.submit.ensures.same }
