-- Into which queues an event is put.
use Rattle.std.specs.Prelude.{◌≡◌, ℕ, zero, suc, ◌+◌, ◌%◌, ◌++◌, ◌∷◌, [], List, length, slice_index_or, slice_set}
use Rattle.std.specs.Option.{unwrap_or}
use Rattle.ap_model.specs.declared.event.Event.{Event}
use Rattle.ap_model.specs.declared.event.Event.TheVariants as event
use Rattle.ap_model.specs.AccessPoint.{shard_of}
use Rattle.ap_queues.specs.Items.{Item}

-- a tick, which concerns every shard
abbrev pub IsTick : Event → Type 0
IsTick e = (units : ℕ) × (e ≡ event.Tick units)

-- the first shard that an event concerns
abbrev pub first_shard : Event → ℕ
first_shard e = unwrap_or (shard_of e) 0

-- how many shards an event concerns
abbrev pub shard_count : Event → ℕ
shard_count (event.Frame bytes) = 1
shard_count (event.Tick units) = 8
shard_count (event.Kick station reason) = 1
shard_count (event.Close station tid) = 1

-- what goes through a queue
abbrev pub item : ℕ → ℕ → Event → Item
item call shard e = record { call = call; shard = shard; event = e }

-- what was put, by worker, after one more item: it went to its shard's worker
abbrev pub with_item : List (List Item) → Item → List (List Item)
with_item puts x =
    let worker = x.shard % length puts in
    slice_set puts worker (slice_index_or puts worker [] ++ x ∷ [])

-- what was put, by worker, after this many shards, from this one on, got an event, in shard order
abbrev pub served : List (List Item) → ℕ → Event → ℕ → ℕ → List (List Item)
served puts call e first zero = puts
served puts call e first (suc n) = with_item (served puts call e first n) (item call (first + n) e)
