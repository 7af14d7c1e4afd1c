-- An event that not all of its shards got.
use Rattle.std.specs.Prelude.{◌≡◌, ℕ, ◌<◌, ◌≤◌, ◌+◌, ◌-◌, ◌%◌, List, length}
use Rattle.ap_model.specs.declared.event.Event.{Event}
use Rattle.ap_queues.specs.declared.queue.EventQueue.{EventQueue}
use Rattle.ap_queues.specs.declared.lines.fault.Unserved.{Unserved}
use Rattle.ap_queues.specs.declared.lines.passes.OperatorLines.{OperatorLines}
use Rattle.ap_queues.specs.Lines.{puts_of, WasFullAt}
use Rattle.ap_queues.specs.Putting.{served}

-- The event is returned. Exactly the shards before the named one got it; the queue of that one's worker was full.
pub record StopsAt (queues : List EventQueue) (old new : OperatorLines) (call : ℕ) (e : Event)
    (first count : ℕ) (u : Unserved) : Type 0 where
  pub event : u.event ≡ e
  pub first_is : first ≤ u.shard
  pub within : u.shard < first + count
  pub before : puts_of new ≡ served (puts_of old) call e first (u.shard - first)
  pub full : WasFullAt (u.shard % length queues) new
