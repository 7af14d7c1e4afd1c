use Rattle.std.proofs.Common.{length, ap, ◌∙◌, sym, arith}
use Rattle.std.proofs.lemmas.List.{length_push}
use Rattle.std.specs.Prelude.{Some}
use Rattle.ap_queues.specs.Passes.{IsMakerOf}
use Rattle.ap_rows.proofs.Standing.{stand_grow}
use Rattle.ap_queues.specs.Lines.{MayTake}
use Rattle.ap_queues.proofs.Makers.{made_push}
use Rattle.ap_queues.proofs.lines.lines.EventLines.open.Goals as goal

pub loop-preserved : goal.loop-preserved
loop-preserved c = record {
  queues = omega (arith, ap length c.push_reserved.ensures.items, length_push c.loop.queues.items c.in_ok-queue.queue, c.loop.invariant.queues);
  made = omega (arith, ap length c.push_reserved-in-loop.ensures.items, length_push c.loop.makers.items c.in_ok-queue.maker, c.loop.invariant.made);
  taken = omega (arith, ap length c.push_reserved-in-loop-2.ensures.items, length_push c.loop.passes.items (Some c.in_ok-queue.pass), c.loop.invariant.taken);
  room = c.push_reserved.ensures.capacity ∙ c.loop.invariant.room;
  room_made = c.push_reserved-in-loop.ensures.capacity ∙ c.loop.invariant.room_made;
  room_taken = c.push_reserved-in-loop-2.ensures.capacity ∙ c.loop.invariant.room_taken;
  unmade = made_push 0 c.loop.makers.items c.push_reserved-in-loop.new.self.items c.in_ok-queue.maker c.push_reserved-in-loop.ensures.items c.in_ok-queue.ensures.unmade c.loop.invariant.unmade;
  makers = stand_grow IsMakerOf c.loop.queues.items c.push_reserved.new.self.items c.loop.makers.items c.push_reserved-in-loop.new.self.items c.in_ok-queue.queue c.in_ok-queue.maker
      (c.loop.invariant.made ∙ sym c.loop.invariant.queues) c.push_reserved.ensures.items c.push_reserved-in-loop.ensures.items c.in_ok-queue.ensures.maker c.loop.invariant.makers;
  workers = stand_grow MayTake c.loop.queues.items c.push_reserved.new.self.items c.loop.passes.items c.push_reserved-in-loop-2.new.self.items c.in_ok-queue.queue (Some c.in_ok-queue.pass)
      (c.loop.invariant.taken ∙ sym c.loop.invariant.queues) c.push_reserved.ensures.items c.push_reserved-in-loop-2.ensures.items (record { own = c.in_ok-queue.ensures.worker; nothing = c.in_ok-queue.ensures.untaken }) c.loop.invariant.workers;
}

pub returns-clause-unmade : goal.returns-clause-unmade
returns-clause-unmade c = record { each = c.loop.invariant.unmade }
