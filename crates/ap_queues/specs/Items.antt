-- What goes through a queue.
use Rattle.std.specs.Prelude.{◌≡◌, ◌<◌, ℕ, IfSome}
use Rattle.ap_model.specs.AccessPoint.{shard_of}
use Rattle.ap_model.specs.declared.event.Event.{Event}

-- an event for a shard, under its caller's number
pub record Item : Type 0 where
  pub call : ℕ
  pub shard : ℕ
  pub event : Event

-- the event concerns this shard of 0 to 7: a tick concerns each, any other event its own
pub record IsTold (event : Event) (shard : ℕ) : Type 0 where
  pub below : shard < 8
  pub own : IfSome (shard_of event) (λ s. shard ≡ s)
