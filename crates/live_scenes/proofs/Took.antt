-- What a worker took of an operator that submitted one event.
use Rattle.std.proofs.Common.{◌≡◌, ◌++◌, ℕ, List, [], slice_index_or, sym, ap, ◌∙◌}
use Rattle.ap_model.specs.declared.event.Event.{Event}
use Rattle.ap_queues.specs.Items.{Item}
use Rattle.ap_queues.specs.Lines.{AreTakenAt, HasPutNothing, numbers_of, puts_of}
use Rattle.ap_queues.specs.Passes.{taken_by}
use Rattle.ap_queues.specs.Putting.{first_shard, served, shard_count}
use Rattle.ap_queues.specs.Queues.{of}
use Rattle.ap_live.specs.Lives.{Live}
use Rattle.ap_live.specs.Tokens.{Operator, Worker}
use Rattle.live_scenes.specs.Submitted.{TookOnly, submitted}

pub took_only : (a : Live) (w w2 : Worker) (o o1 o2 : Operator) (call : ℕ) (e : Event) → HasPutNothing a.queues o.lines
    → puts_of o1.lines ≡ served (puts_of o.lines) call e (first_shard e) (shard_count e) → AreTakenAt w.number o1.lines w.pass
    → taken_by w2.pass ≡ taken_by w.pass → w2.number ≡ w.number → numbers_of o2.lines ≡ numbers_of o1.lines → TookOnly a w2 o2 call e
took_only a w w2 o o1 o2 call e new put order taken number numbers =
    let all : puts_of o1.lines ≡ submitted a call e = put ∙ ap (λ (puts : List (List Item)). served puts call e (first_shard e) (shard_count e)) new in
    record {
      rest = order.rest;
      put =
          ap (λ (n : ℕ). slice_index_or (submitted a call e) n []) number
          ∙ (ap (λ (puts : List (List Item)). slice_index_or puts w.number []) (sym all)
          ∙ (order.put ∙ (λ i. of (slice_index_or (sym numbers i) (sym number i) 0) (sym taken i) ++ order.rest)));
    }
