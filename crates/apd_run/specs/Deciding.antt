-- What became of a worker's events, as the shards' histories have it.
use Rattle.std.specs.Prelude.{◌≡◌, ◌==◌, ◌<◌, ◌≤◌, ℕ, Bool, true, false, List, [], ◌∷◌, ◌++◌, length, map, slice_index_or}
use Rattle.std.specs.List.{All}
use mathlib.Core.List.{IsPrefix}
use Rattle.ap_model.specs.declared.event.Event.{Event}
use Rattle.ap_model.specs.declared.event.Out.{Out}
use Rattle.ap_model.specs.Drops.{drops}
use Rattle.ap_model.specs.Readings.{Config}
use Rattle.ap_model.specs.Runs.{Entry}
use Rattle.ap_core.specs.Handles.{rules}
use Rattle.ap_locked.specs.Tokens.{AreHandled, IsAmong, Token}
use Rattle.ap_queues.specs.Items.{IsTold, Item}
use Rattle.ap_queues.specs.Passes.{taken_by}
use Rattle.ap_queues.specs.Queues.{items_of}
use Rattle.versions.specs.declared.list.Load.{Load}
use Rattle.versions.specs.Sets.{set_of}
use Rattle.ap_shards.specs.Tokens.{Eight}
use Rattle.ap_shards.specs.declared.fate.Fate.{Fate}
use Rattle.ap_shards.specs.declared.fate.Fate.TheVariants.{Decided, Refused, NotHandled}
use Rattle.ap_live.specs.Tokens.{Worker}
use Rattle.ap_live.specs.Upholding.{token_at}
use Rattle.ap_live.specs.Verdicts.{AreJudged}
use Rattle.ap_live.specs.declared.tagged.Tagged.{Tagged}
use Rattle.apd_run.specs.Batches.{Batch, events_in, events_of}

-- a decided event, what it led to, and whether a verdict dropped its data
pub record Deed : Type 0 where
  pub event : Event
  pub outs : List Out
  pub dropped : Bool

-- what an entry of a history says of this
abbrev pub deed_of : Entry → Deed
deed_of e = record { event = e.event; outs = e.outs; dropped = drops e.asked }

-- adds what is told of an event, if it was decided at the shard
abbrev pub with_deed : Bool → Event → Fate → List Deed → List Deed
with_deed true e (Decided outs dropped) later = record { event = e; outs = outs.items; dropped = dropped } ∷ later
with_deed true e Refused later = later
with_deed true e NotHandled later = later
with_deed false e fate later = later

-- what is told of the events that were decided at this shard, in order
abbrev pub deeds_at : ℕ → List Tagged → List Deed
deeds_at s [] = []
deeds_at s (t ∷ ts) = with_deed (t.item.shard == s) t.item.event t.fate (deeds_at s ts)

-- the items of events, in order
abbrev pub items_in : List Tagged → List Item
items_in events = map (λ (t : Tagged). t.item) events

-- the worker took all that was put into its queue, in order, if this was put into each worker's
pub record TookAllOf (puts : List (List Item)) (w : Worker) : Type 0 where
  pub put : slice_index_or puts w.number [] ≡ items_of (taken_by w.pass)

-- the events are of all items that were put into this worker's queue, in order, after those of earlier batches
abbrev pub AreOfQueue : ℕ → List (List Item) → List Batch → List Tagged → Type 0
AreOfQueue worker puts batches events = slice_index_or puts worker [] ≡ items_in (events_of worker batches ++ events)

-- an event that concerns the shard at which it was handled
abbrev pub Concerns : Tagged → Type 0
Concerns t = IsTold t.item.event t.item.shard

-- Each verdict in the entry is that of an accepted program, within its budget, or of the verdict tables if there is none: all
-- of one set of programs, in which the first of these loads result, at least this many of them.
pub record WasJudged (least : ℕ) (published : List Load) (e : Entry) : Type 0 where
  pub loads : List Load
  pub first : IsPrefix loads published
  pub many : least ≤ length loads
  pub judged : AreJudged (set_of loads) e.asked

-- These entries are a batch's at this shard: they say, in order, what is told of its events that were decided there, and their
-- verdicts are of programs in which the first of these loads result, at least those of which the worker had been told.
pub record AreOfBatch (s : ℕ) (published : List Load) (b : Batch) (entries : List Entry) : Type 0 where
  pub deeds : map deed_of entries ≡ deeds_at s b.events
  pub judged : All (WasJudged b.told published) entries

-- the same of batches, one after another
abbrev pub AreOfBatches : ℕ → List Load → List Batch → List Entry → Type 0
AreOfBatches s published [] entries = entries ≡ []
AreOfBatches s published (b ∷ batches) entries =
    (first : List Entry) × (others : List Entry) × (entries ≡ first ++ others) × AreOfBatch s published b first × AreOfBatches s published batches others

-- on the token's page are the entries of these batches, and behind them its own
pub record HasWritten (s : ℕ) (published : List Load) (batches : List Batch) (t : Token) : Type 0 where
  pub before : List Entry
  pub page : t.page.made ≡ before ++ t.own
  pub of_batches : AreOfBatches s published batches before

-- The worker took the items of these batches and then of these events, in order, and each event concerns its shard. What is
-- told of those that were decided at a shard is, in order, what the token's own entries there say, whose verdicts are of
-- programs in which loads result that the worker has seen, at least as many as it had been told of.
pub record Accounts (batches : List Batch) (told : ℕ) (w : Worker) (events : List Tagged) : Type 0 where
  pub taken : items_of (taken_by w.pass) ≡ items_in (events_in batches ++ events)
  pub concern : All Concerns events
  pub deeds : (s : ℕ) → s < 8 → map deed_of (token_at s w.shards).own ≡ deeds_at s events
  pub judged : (s : ℕ) → s < 8 → All (WasJudged told w.seen.loads) (token_at s w.shards).own
  pub written : (s : ℕ) → s < 8 → HasWritten s w.seen.loads batches (token_at s w.shards)

-- What is told of the events that were decided at this shard is, in order, what entries of this history say, each at a
-- position of its own; their verdicts are of programs in which the first of these loads result, at least this many.
pub record AreEntries (s least : ℕ) (published : List Load) (events : List Tagged) (history : List Entry) : Type 0 where
  pub entries : List Entry
  pub deeds : map deed_of entries ≡ deeds_at s events
  pub judged : All (WasJudged least published) entries
  pub among : IsAmong entries history

-- these entries are a run of the link at this shard from nobody on, under this configuration
abbrev pub IsHistory : ℕ → Config → List Entry → Type 0
IsHistory s config history = AreHandled (rules s config) history

-- what these tokens have seen of each shard
abbrev pub histories_of : Eight → ℕ → List Entry
histories_of e s = (token_at s e).seen
