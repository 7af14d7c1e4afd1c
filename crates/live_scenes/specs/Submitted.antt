-- What a worker took of an operator, in terms of what that submitted.
use Rattle.std.specs.Prelude.{◌≡◌, ◌++◌, ℕ, List, [], length, replicate, slice_index_or}
use Rattle.ap_model.specs.declared.event.Event.{Event}
use Rattle.ap_queues.specs.Items.{Item}
use Rattle.ap_queues.specs.Lines.{numbers_of}
use Rattle.ap_queues.specs.Passes.{taken_by}
use Rattle.ap_queues.specs.Putting.{first_shard, served, shard_count}
use Rattle.ap_queues.specs.Queues.{of}
use Rattle.ap_live.specs.Lives.{Live}
use Rattle.ap_live.specs.Tokens.{Operator, Worker}

-- what an operator that submits this event alone puts, by worker
abbrev pub submitted : Live → ℕ → Event → List (List Item)
submitted a call event = served (replicate (length a.queues) []) call event (first_shard event) (shard_count event)

-- what the worker took of the operator is a prefix of what this event alone puts into its queue
pub record TookOnly (a : Live) (w : Worker) (o : Operator) (call : ℕ) (event : Event) : Type 0 where
  pub rest : List Item
  pub put : slice_index_or (submitted a call event) w.number [] ≡ of (slice_index_or (numbers_of o.lines) w.number 0) (taken_by w.pass) ++ rest
