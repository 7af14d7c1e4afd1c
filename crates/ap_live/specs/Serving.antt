-- What workers and operators report, and what their tokens then are.
use Rattle.std.specs.Prelude.{◌≡◌, ◌<◌, ℕ, Bool, true, false, List, [], ◌∷◌, ◌++◌, Some}
use Rattle.versions.specs.Lists.{Beginning, Begins}
use Rattle.hook_judge.specs.Counted.{Counted}
use Rattle.ap_model.specs.AccessPoint.{shard_of}
use Rattle.ap_model.specs.Readings.{Config}
use Rattle.ap_model.specs.declared.event.Event.{Event}
use Rattle.ap_model.specs.declared.event.Event.TheVariants as event
use Rattle.ap_model.specs.declared.event.Out.{Out}
use Rattle.ap_books.specs.Counts.{counts_of, plus}
use Rattle.ap_queues.specs.declared.item.Queued.{Queued}
use Rattle.ap_queues.specs.Items.{IsTold}
use Rattle.ap_queues.specs.Passes.{taken_by}
use Rattle.ap_shards.specs.Fates.{ActsAt, ComesAt}
use Rattle.ap_shards.specs.Judged.{HoldsOn, JudgedBy}
use Rattle.ap_shards.specs.Tokens.{Eight, holding_of}
use Rattle.ap_live.specs.Growth.{grown_at, grown_by}
use Rattle.ap_shards.specs.declared.fate.Fate.{Fate}
use Rattle.ap_shards.specs.declared.fate.Fate.TheVariants.{Decided, Refused, NotHandled}
use Rattle.ap_live.specs.declared.tagged.Tagged.{Tagged}
use Rattle.ap_live.specs.Counting.{KeepParts, counted_by, fate_counts, tally}
use Rattle.ap_live.specs.Lives.{Live}
use Rattle.ap_live.specs.Tokens.{Operator, Worker}

-- the progress of a worker: what it took, the loads that it has seen, the state of its programs with what was counted
-- of their runs, its tokens
pub record Progress : Type 0 where
  pub taken : List Queued
  pub seen : Beginning
  pub held : Counted
  pub shards : Eight

-- the progress that a worker's token shows
abbrev pub progress_of : Worker → Progress
progress_of w = record { taken = taken_by w.pass; seen = w.seen; held = w.held; shards = w.shards }

-- an event is decided only at a shard from 0 to 7
abbrev pub IsInside : Fate → ℕ → Type 0
IsInside (Decided outs dropped) shard = shard < 8
IsInside Refused shard = Unit {0}
IsInside NotHandled shard = Unit {0}

-- What became of an event at its shard, under this configuration. If it was decided, then by the programs of the set
-- that the worker then had seen, which is one whole published set, with all loads that it had seen or been told of
-- before; and over its own tables.
pub record Becomes (config : Config) (a : Live) (worker : ℕ) (p : Progress) (e : Event) (shard : ℕ) (f : Fate) (q : Progress) : Type 0 where
  pub begins : Begins p.seen q.seen
  pub came : ComesAt (JudgedBy a.stock.maps worker q.seen.loads p.held q.held) config shard p.shards e f q.shards
  pub held : HoldsOn f p.held q.held
  pub inside : IsInside f shard

-- the worker took this item, and reported it, with the fate of its event at its shard, which the event concerns
pub record Serves (config : Config) (a : Live) (worker : ℕ) (p : Progress) (x : Queued) (t : Tagged) (q : Progress) : Type 0 where
  pub took : q.taken ≡ p.taken ++ x ∷ []
  pub item : t.item ≡ x.item
  pub told : IsTold t.item.event t.item.shard
  pub became : Becomes config a worker p t.item.event t.item.shard t.fate q

-- there is one report for each item, in order
abbrev pub ServesAll : Config → Live → ℕ → Progress → List Queued → List Tagged → Progress → Type 0
ServesAll config a worker p [] [] q = q ≡ p
ServesAll config a worker p (x ∷ xs) (t ∷ ts) q =
    (mid : Progress) × Serves config a worker p x t mid × ServesAll config a worker mid xs ts q
ServesAll config a worker p [] (t ∷ ts) q = ⊥
ServesAll config a worker p (x ∷ xs) [] q = ⊥

-- the worker served one item: its parts of the ledgers have grown by exactly what was reported
pub record ServedOne (config : Config) (a : Live) (w : Worker) (t : Tagged) (w2 : Worker) : Type 0 where
  pub item : Queued
  pub served : Serves config a w.number (progress_of w) item t (progress_of w2)
  pub grown : holding_of w2.shards ≡ grown_at (holding_of w.shards) t.item.shard t.fate
  pub counted : counted_by w2.shards ≡ plus (counted_by w.shards) (fate_counts t.fate)
  pub parts : KeepParts w.shards w2.shards

-- the worker served all of these: the reports were appended to the list, in order, and its parts have grown by exactly
-- them
pub record Served (config : Config) (a : Live) (w w2 : Worker) (list list2 : List Tagged) : Type 0 where
  pub items : List Queued
  pub tags : List Tagged
  pub took : taken_by w2.pass ≡ taken_by w.pass ++ items
  pub listed : list2 ≡ list ++ tags
  pub served : ServesAll config a w.number (progress_of w) items tags (progress_of w2)
  pub grown : holding_of w2.shards ≡ grown_by (holding_of w.shards) tags
  pub counted : counted_by w2.shards ≡ plus (counted_by w.shards) (tally tags)
  pub parts : KeepParts w.shards w2.shards

-- a command of an operator, which concerns one shard
abbrev pub is_command : Event → Bool
is_command (event.Frame bytes) = false
is_command (event.Tick units) = false
is_command (event.Kick station reason) = true
is_command (event.Close station tid) = true

-- the command was decided at its shard, and the operator's parts of the ledgers have grown by exactly its outputs, and
-- no drop
pub record Acted (config : Config) (o : Operator) (e : Event) (outs : List Out) (o2 : Operator) : Type 0 where
  pub shard : ℕ
  pub shard_is : shard_of e ≡ Some shard
  pub acted : ActsAt config shard o.shards e outs o2.shards
  pub counted : counted_by o2.shards ≡ plus (counted_by o.shards) (counts_of outs false)
  pub parts : KeepParts o.shards o2.shards
