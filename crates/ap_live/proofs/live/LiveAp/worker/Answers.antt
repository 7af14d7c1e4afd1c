use Rattle.std.proofs.Common.{refl}
use Rattle.ap_live.specs.Lives.{Live}
use Rattle.ap_live.proofs.Keeping.{live_kept}
use Rattle.ap_live.proofs.live.LiveAp.worker.Goals as goal

pub invariant_of-self : goal.invariant_of-self
invariant_of-self g c =
    let a : Live = record { queues = c.self.inside.lines; stock = c.self.inside.tables; list = c.self.inside.entrance; draw = c.self.inside.draw } in
    let b : Live = record a { stock = c.state_of.new.tables } in
    live_kept a b (record { queues = refl; tables = c.state_of.ensures.tables; workers = c.state_of.ensures.workers; list = refl; draw = refl }) c.self.invariant

pub invariant_of-self-then-left-le1 : goal.invariant_of-self-then-left-le1
invariant_of-self-then-left-le1 g c =
    let a : Live = record { queues = c.self.inside.lines; stock = c.self.inside.tables; list = c.self.inside.entrance; draw = c.self.inside.draw } in
    let b : Live = record a { stock = c.state_of.new.tables } in
    live_kept a b (record { queues = refl; tables = c.state_of.ensures.tables; workers = c.state_of.ensures.workers; list = refl; draw = refl }) c.self.invariant

pub invariant_of-self-2 : goal.invariant_of-self-2
invariant_of-self-2 g c =
    let a : Live = record { queues = c.self.inside.lines; stock = c.self.inside.tables; list = c.self.inside.entrance; draw = c.self.inside.draw } in
    let b : Live = record a { stock = c.state_of.new.tables } in
    live_kept a b (record { queues = refl; tables = c.state_of.ensures.tables; workers = c.state_of.ensures.workers; list = refl; draw = refl }) c.self.invariant
