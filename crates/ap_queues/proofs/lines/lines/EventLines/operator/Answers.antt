use Rattle.std.proofs.Common.{◌≡◌, ◌<◌, ℕ, Some, List, [], ◌∷◌, ◌++◌, length, map, replicate, slice_get, sym, ap, ◌∙◌, subst, arith, get_or}
use Rattle.std.proofs.lemmas.List.{map-append, replicate_more}
use Rattle.std.proofs.lemmas.Option.{slice_get_within}
use Rattle.ap_queues.specs.Items.{Item}
use Rattle.ap_queues.specs.declared.queue.EventQueue.{EventQueue}
use Rattle.ap_queues.specs.declared.queue.OperatorPass.{OperatorPass}
use Rattle.ap_queues.specs.Passes.{IsMakerOf, IsOperatorOf, put_by}
use Rattle.ap_rows.proofs.Standing.{found, rows_set_at, stand_push}
use Rattle.ap_queues.proofs.Makers.{made_before, made_from}
use Rattle.ap_queues.proofs.lines.lines.EventLines.operator.Goals as goal

pub loop-worker-preserved : goal.loop-worker-preserved
loop-worker-preserved c =
    let queues : List EventQueue = c.args.self.now in
    let queue : EventQueue = c.index.result.now in
    let passes : List OperatorPass = c.loop-worker.passes.items in
    let pass : OperatorPass = c.in-Some.pass in
    let worker : ℕ = c.loop-worker.worker in
    let low : worker < length queues = omega (arith, c.loop-worker-test.true, c.len-worker-end.ensures, ap length c.self.view_is) in
    let queue_is : queue ≡ get_or queues worker queue = c.index.ensures ∙ ap (λ (qs : List EventQueue). get_or qs worker queue) c.self.view_is in
    let low_maker : worker < length c.loop-worker.left.makers.items = omega (arith, low, c.loop-worker.invariant.left.makers.as_many) in
    let here : slice_get queues (length passes) ≡ Some queue = subst (λ (n : ℕ). slice_get queues n ≡ Some queue) (sym c.loop-worker.invariant.count) (found queues worker queue low queue_is) in
    record {
      left = record {
        makers = rows_set_at IsMakerOf queues c.loop-worker.left.makers.items worker queue c.operator.new.maker low queue_is c.operator.ensures.maker c.loop-worker.invariant.left.makers;
        workers = c.loop-worker.invariant.left.workers;
      };
      count = omega (arith, c.push_reserved.ensures.len, c.loop-worker.invariant.count);
      room = c.push_reserved.ensures.capacity ∙ c.loop-worker.invariant.room;
      own = stand_push IsOperatorOf queues passes c.push_reserved.new.self.items queue pass here c.push_reserved.ensures.items c.in-Some.ensures.operator c.loop-worker.invariant.own;
      made = λ n all. made_before n c.loop-worker.left.makers.items worker c.index_mut-maker.result.now c.operator.new.maker low_maker c.index_mut-maker.ensures.value c.in-Some.ensures.made
          (c.loop-worker.invariant.unmade n all) (c.loop-worker.invariant.made n all);
      unmade = λ n all. made_from n c.loop-worker.left.makers.items worker c.operator.new.maker (c.loop-worker.invariant.unmade n all);
      unput =
          ap (λ (ps : List OperatorPass). map put_by ps) c.push_reserved.ensures.items
          ∙ (map-append put_by passes (pass ∷ [])
          ∙ (ap (λ (puts : List (List Item)). puts ++ put_by pass ∷ []) c.loop-worker.invariant.unput
          ∙ (ap (λ (items : List Item). replicate worker [] ++ items ∷ []) c.in-Some.ensures.unput ∙ replicate_more worker [])));
    }

pub returns-clause-made : goal.returns-clause-made
returns-clause-made c =
    record {
      grown = λ n all. record {
        each =
            λ at m there.
            let makers = c.loop-worker.left.makers.items in
            let within : at < length makers = slice_get_within makers at m there in
            let below : at < c.loop-worker.worker = omega (arith, within, c.loop-worker-test.false, c.loop-worker.invariant.left.makers.as_many, c.len-worker-end.ensures, ap length c.self.view_is) in
            c.loop-worker.invariant.made n all at m below there;
      };
    }
