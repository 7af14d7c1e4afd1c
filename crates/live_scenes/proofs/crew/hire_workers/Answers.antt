use Rattle.std.proofs.Common.{◌≡◌, ◌∙◌, Ok, arith}
use Rattle.ap_shards.proofs.Results.{if_ok, on_ok}
use Rattle.ap_shards.specs.Tokens.{IsNewcomer}
use Rattle.ap_live.specs.Opening.{GaveToken}
use Rattle.ap_live.specs.Tokens.{IsWorker, Worker}
use Rattle.ap_live.proofs.Keeping.{worker_kept}
use Rattle.ap_live.proofs.Newcomers.{newcomer_parts}
use Rattle.live_scenes.specs.Rights.{IsHand, IsHandBoxed}
use Rattle.live_scenes.proofs.Keeping.{hand_kept, keeps_on}
use Rattle.live_scenes.proofs.OneByOne.{all_and_one}
use Rattle.live_scenes.proofs.crew.hire_workers.Goals as goal

pub loop-hired-preserved : goal.loop-hired-preserved
loop-hired-preserved g c =
    let a = c.loop-hired.ap in
    let b = c.worker.new.self in
    let old = c.loop-hired.tokens.items in
    let new = c.push_reserved.new.self.items in
    let token = c.in_ok-token.token in
    let made : c.worker.result ≡ Ok token.value = c.in_ok-token.ensures in
    let given = on_ok (GaveToken c.loop-hired.left c.worker.new.left) c.worker.result token.value made c.worker.ensures.given in
    let stock = c.loop-hired.left.shards in
    record {
      left = c.worker.ensures.left;
      all = c.worker.ensures.keeps.workers ∙ c.loop-hired.invariant.all;
      own = all_and_one (IsHandBoxed a) (IsHandBoxed b) old new token
          (λ w h. hand_kept a b w.value (worker_kept a b w.value c.worker.ensures.keeps) h)
          c.loop-hired.invariant.own
          (record { own = if_ok (IsWorker b) c.worker.result token.value made c.worker.ensures.own; part = newcomer_parts stock token.value.shards (if_ok (λ (t : Worker). IsNewcomer stock t.shards) c.worker.result token.value made c.worker.ensures.new) })
          c.push_reserved.ensures.items;
      many = omega (arith, c.push_reserved.ensures.len, c.loop-hired.invariant.many);
      room = omega (arith, c.push_reserved.ensures.capacity, c.loop-hired.invariant.room);
      parts = omega (arith, given.parts, c.loop-hired.invariant.parts);
      keeps = keeps_on c.args.ap.now a b c.loop-hired.invariant.keeps c.worker.ensures.keeps;
    }
