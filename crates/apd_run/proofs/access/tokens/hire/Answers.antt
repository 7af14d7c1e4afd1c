use Rattle.std.proofs.Common.{◌∙◌, arith, sym}
use Rattle.bpf_helpers.proofs.Keeping.{shapes_kept}
use Rattle.ap_live.specs.Tokens.{IsWorker}
use Rattle.ap_live.proofs.Keeping.{worker_kept}
use Rattle.ap_live.proofs.Newcomers.{newcomer_counts, newcomer_parts}
use Rattle.apd_run.specs.Dealing.{IsNewWorker}
use Rattle.apd_run.proofs.Deciding.{new_unowned, new_unwritten}
use Rattle.apd_run.proofs.Numbering.{numbered_more}
use Rattle.apd_run.proofs.OneByOne.{all_and_one}
use Rattle.apd_run.proofs.Sums.{given_none, given_pages}
use Rattle.apd_run.proofs.access.tokens.hire.Goals as goal

pub loop-number-preserved : goal.loop-number-preserved
loop-number-preserved g c =
    let a = c.loop-number.ap in
    let b = c.worker.new.self in
    let old = c.loop-number.tokens.items in
    let new = c.push.new.self.items in
    let token = c.in-Ok.token in
    let given = c.in-Ok.ensures.given in
    let stock = c.loop-number.left.shards in
    record {
      left = c.worker.ensures.left;
      unmade = c.worker.ensures.made.kept 0 c.loop-number.invariant.unmade;
      all = c.worker.ensures.keeps.workers ∙ c.loop-number.invariant.all;
      own = all_and_one (IsWorker a) (IsWorker b) old new token (λ w. worker_kept a b w c.worker.ensures.keeps) c.loop-number.invariant.own c.in-Ok.ensures.own c.in_ok-push.ensures.items;
      new_workers = all_and_one IsNewWorker IsNewWorker old new token (λ w h. h) c.loop-number.invariant.new_workers
          (record { parts = newcomer_parts stock token.shards c.in-Ok.ensures.new; nothing = newcomer_counts stock token.shards c.in-Ok.ensures.new; untaken = c.in-Ok.ensures.untaken; unowned = new_unowned stock token.shards c.in-Ok.ensures.new; unwritten = new_unwritten stock token.shards c.in-Ok.ensures.new })
          c.in_ok-push.ensures.items;
      numbered = numbered_more old new token c.in_ok-push.ensures.items (c.in-Ok.ensures.number ∙ (sym c.loop-number.invariant.many ∙ c.loop-number.tokens.ok.0)) c.loop-number.invariant.numbered;
      many = omega (arith, c.in_ok-push.ensures.len, c.loop-number.invariant.many);
      parts = omega (arith, c.in_ok-push.ensures.len, given.parts, c.loop-number.invariant.parts);
      counted = given_none stock c.worker.new.left.shards given.shards ∙ c.loop-number.invariant.counted;
      pages = given_pages stock c.worker.new.left.shards given.shards ∙ c.loop-number.invariant.pages;
      list = c.worker.ensures.keeps.list ∙ c.loop-number.invariant.list;
      queues = c.worker.ensures.keeps.queues ∙ c.loop-number.invariant.queues;
      maps = shapes_kept a.stock.maps b.stock.maps c.worker.ensures.keeps.tables ∙ c.loop-number.invariant.maps;
    }

pub returns-in_default-clause-maps : goal.returns-in_default-clause-maps
returns-in_default-clause-maps g c = shapes_kept _ _ c.worker.ensures.keeps.tables ∙ c.loop-number.invariant.maps

pub returns-in_err-push-clause-maps : goal.returns-in_err-push-clause-maps
returns-in_err-push-clause-maps g c = shapes_kept _ _ c.worker.ensures.keeps.tables ∙ c.loop-number.invariant.maps
