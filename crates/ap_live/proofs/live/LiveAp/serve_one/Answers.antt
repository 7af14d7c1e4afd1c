use Rattle.std.proofs.Common.{refl, ap, subst, ◌∙◌}
use Rattle.ap_model.specs.Readings.{Config}
use Rattle.ap_queues.specs.declared.item.Queued.{Queued}
use Rattle.ap_queues.specs.Items.{IsTold, Item}
use Rattle.ap_queues.specs.Passes.{taken_by}
use Rattle.ap_live.specs.declared.tagged.Tagged.{Tagged}
use Rattle.ap_live.specs.Serving.{ServedOne, Serves, progress_of}
use Rattle.ap_live.specs.Tokens.{Worker}
use Rattle.ap_live.proofs.Going.{served_item}
use Rattle.ap_live.proofs.live.LiveAp.serve_one.Goals as goal

pub returns-clause-served : goal.returns-clause-served
returns-clause-served g c =
    let config : Config = g.B.Journals.config in
    let before = c.worker.inside in
    let old : Worker = record { number = before.number; pass = before.pass; seen = before.reader; held = before.state; shards = before.shards } in
    let new : Worker = c.handle-fate.new.worker in
    let x : Queued = c.in_ok-queued.queued in
    let t : Tagged = record { item = x.item; fate = c.handle-fate.result } in
    let became = c.handle-fate.ensures.became in
    let served : Serves config c.args.self.now old.number (progress_of old) x t (progress_of new) = record {
      took = ap taken_by c.handle-fate.ensures.pass ∙ c.in_ok-queued.ensures.taken;
      item = refl;
      told = subst (λ (i : Item). IsTold i.event i.shard) c.item.view_is c.item.invariant;
      became = record { begins = became.begins; came = became.came; held = became.held; inside = became.inside };
    } in
    subst (λ (w : Worker). ServedOne config c.args.self.now w t new) c.worker.view_is (served_item config c.args.self.now old new x t served)
