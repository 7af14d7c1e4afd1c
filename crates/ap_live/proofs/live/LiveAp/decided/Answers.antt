use Rattle.std.proofs.Common.{List, ap, sym, subst, ◌∙◌}
use Rattle.bpf_helpers.specs.Hooked.{IsFitting}
use Rattle.bpf_helpers.specs.Tables.{Tables}
use Rattle.ap_model.specs.Readings.{Config}
use Rattle.versions.specs.Lists.{Beginning, Begins}
use Rattle.ap_shards.specs.Fates.{ComesAt}
use Rattle.ap_shards.specs.Judged.{JudgedBy}
use Rattle.ap_live.specs.Lives.{Live}
use Rattle.ap_live.specs.Serving.{Becomes, progress_of}
use Rattle.ap_live.specs.Tokens.{IsWorker, Worker}
use Rattle.ap_live.proofs.Going.{is_inside}
use Rattle.ap_live.proofs.live.LiveAp.decided.Goals as goal

pub returns-clause-own : goal.returns-clause-own
returns-clause-own g c =
    let own = subst (λ (w : Worker). IsWorker c.args.self.now w) (sym c.worker.view_is) c.requires in
    let maps_are = c.maps.ensures.is ∙ ap (λ (a : Live). a.stock.maps) c.self.view_is in
    record {
      number = own.number;
      pass = own.pass;
      list = ap (λ (b : Beginning). b.list) c.leave.ensures.seen ∙ (c.enter-entered.ensures.seen.same_list ∙ own.list);
      fitting = subst (λ (ms : List Tables). IsFitting ms c.worker.inside.number c.fate_of-fate.new.state.seats) maps_are c.fate_of-fate.ensures.fitting;
    }

pub returns-clause-became : goal.returns-clause-became
returns-clause-became g c =
    let config : Config = g.B.Journals.config in
    let before = c.worker.inside in
    let item = c.args.item.now in
    let held = c.fate_of-fate.new.state in
    let shards = c.fate_of-fate.new.mine in
    let seen : Beginning = c.leave.result in
    let fate = c.fate_of-fate.result in
    let maps_are = c.maps.ensures.is ∙ ap (λ (a : Live). a.stock.maps) c.self.view_is in
    let old : Worker = record { number = before.number; pass = before.pass; seen = before.reader; held = before.state; shards = before.shards } in
    let new : Worker = record { number = before.number; pass = before.pass; seen = seen; held = held; shards = shards } in
    let by_set = subst (λ (b : Beginning). ComesAt (JudgedBy c.maps.result.now before.number b.loads before.state held) config item.shard before.shards item.event fate shards)
    (c.set.ensures.is ∙ sym c.leave.ensures.seen) c.fate_of-fate.ensures.fate in
    let became : Becomes config c.args.self.now old.number (progress_of old) item.event item.shard fate (progress_of new) = record {
      begins = subst (λ (b : Beginning). Begins before.reader b) (sym c.leave.ensures.seen) c.enter-entered.ensures.seen;
      came = subst (λ (ms : List Tables). ComesAt (JudgedBy ms before.number seen.loads before.state held) config item.shard before.shards item.event fate shards) maps_are by_set;
      held = c.fate_of-fate.ensures.holds;
      inside = is_inside fate item.shard c.fate_of-fate.ensures.inside;
    } in
    subst (λ (w : Worker). Becomes config c.args.self.now w.number (progress_of w) item.event item.shard fate (progress_of new)) c.worker.view_is became
