use Rattle.live_scenes.proofs.Keeping.{hand_served}
use Rattle.live_scenes.proofs.hands.Hand.serve.Goals as goal

pub invariant_of-self : goal.invariant_of-self
invariant_of-self g c =
    let was = c.args.self.now in
    record { is_hand = hand_served was.ap.now was.token.value c.deref_mut.result.now c.serve.new.worker c.deref_mut.ensures.value was.is_hand c.serve.ensures.own c.serve.ensures.served.parts }
