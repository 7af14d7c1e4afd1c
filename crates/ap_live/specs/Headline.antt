-- The whole main theorem, for what the owner of a token reports.
use Rattle.std.specs.Prelude.{◌≡◌, ◌==◌, ◌<◌, ℕ, Bool, true, false, List, [], ◌∷◌, ◌++◌, map, Some}
use mathlib.Core.List.{IsPrefix}
use Rattle.ap_model.specs.AccessPoint.{shard_of}
use Rattle.ap_model.specs.declared.event.Event.{Event}
use Rattle.ap_model.specs.declared.event.Out.{Out}
use Rattle.ap_model.specs.Readings.{Config}
use Rattle.ap_model.specs.Runs.{Entry}
use Rattle.ap_core.specs.Handles.{rules}
use Rattle.ap_books.specs.Counts.{counts_of, plus}
use Rattle.ap_locked.specs.Pages.{with_entries}
use Rattle.ap_locked.specs.Tokens.{Token}
use Rattle.ap_queues.specs.declared.item.Queued.{Queued}
use Rattle.ap_queues.specs.Passes.{taken_by}
use Rattle.ap_shards.specs.declared.fate.Fate.{Fate}
use Rattle.ap_shards.specs.declared.fate.Fate.TheVariants.{Decided, Refused, NotHandled}
use Rattle.ap_live.specs.declared.tagged.Tagged.{Tagged}
use Rattle.ap_live.specs.Counting.{counted_by, tally}
use Rattle.ap_live.specs.Lives.{Live}
use Rattle.ap_live.specs.Serving.{Progress, Serves, progress_of}
use Rattle.ap_live.specs.Tokens.{Operator, Worker}
use Rattle.ap_live.specs.Events.{EntryHolds, FateHolds}
use Rattle.ap_live.specs.Upholding.{token_at}

-- there is one report for each item taken, in order, and the main theorem holds of each
abbrev pub HoldsOfEach : Config → Live → ℕ → Progress → List Queued → List Tagged → Progress → Type 0
HoldsOfEach config a worker p [] [] q = q ≡ p
HoldsOfEach config a worker p (x ∷ xs) (t ∷ ts) q =
    (mid : Progress) × Serves config a worker p x t mid
    × FateHolds config a worker p t.item.event t.item.shard t.fate mid
    × HoldsOfEach config a worker mid xs ts q
HoldsOfEach config a worker p [] (t ∷ ts) q = ⊥
HoldsOfEach config a worker p (x ∷ xs) [] q = ⊥

-- adds the outputs of one event, if it was decided at the shard
abbrev pub with_outs : Bool → Fate → List (List Out) → List (List Out)
with_outs true (Decided outs dropped) later = outs.items ∷ later
with_outs true Refused later = later
with_outs true NotHandled later = later
with_outs false f later = later

-- the outputs of the events that were reported as decided at this shard, event by event
abbrev pub outs_at : ℕ → List Tagged → List (List Out)
outs_at s [] = []
outs_at s (t ∷ ts) = with_outs (t.item.shard == s) t.fate (outs_at s ts)

-- What was reported at one shard is, event by event, the outputs of the token's own new entries, which are all that came
-- onto its page. What it has seen extends what it had seen.
pub record HandsOn (t : Token) (handed : List (List Out)) (u : Token) : Type 0 where
  pub entries : List Entry
  pub own : u.own ≡ t.own ++ entries
  pub page : u.page ≡ with_entries t.page entries
  pub outs : map (λ e. e.outs) entries ≡ handed
  pub goes_on : IsPrefix t.seen u.seen

-- The main theorem of a worker that served. With what `Upholds` says of its token afterwards: what it reported at a
-- shard is, in order, the outputs of entries of one history of that shard from the opening, of which all laws of the
-- link hold.
pub record WorkerHeadline (config : Config) (a : Live) (w w2 : Worker) (list list2 : List Tagged) : Type 0 where
  pub items : List Queued
  pub tags : List Tagged
  pub took : taken_by w2.pass ≡ taken_by w.pass ++ items
  pub listed : list2 ≡ list ++ tags
  pub events : HoldsOfEach config a w.number (progress_of w) items tags (progress_of w2)
  pub shards : (s : ℕ) → s < 8 → HandsOn (token_at s w.shards) (outs_at s tags) (token_at s w2.shards)
  pub counted : counted_by w2.shards ≡ plus (counted_by w.shards) (tally tags)

-- the main theorem of an operator's command, for which no verdict is asked
pub record OperatorHeadline (config : Config) (o : Operator) (event : Event) (outs : List Out) (o2 : Operator) : Type 0 where
  pub shard : ℕ
  pub shard_is : shard_of event ≡ Some shard
  pub entry : EntryHolds (rules shard config) (token_at shard o.shards) event outs (token_at shard o2.shards)
  pub silent : entry.asked ≡ []
  pub counted : counted_by o2.shards ≡ plus (counted_by o.shards) (counts_of outs false)
