-- The main theorem for one decided event.
use Rattle.std.specs.Prelude.{◌≡◌, ◌<◌, ℕ, Bool, List, [], ◌∷◌, ◌++◌}
use mathlib.Core.List.{IsPrefix}
use Rattle.ap_model.specs.declared.event.Event.{Event}
use Rattle.ap_model.specs.declared.event.Out.{Out}
use Rattle.ap_model.specs.Asks.{Ask}
use Rattle.ap_model.specs.Readings.{Config, Readings, Rules}
use Rattle.ap_model.specs.Runs.{Entry, Run, opening}
use Rattle.ap_model.specs.Steps.{Step}
use Rattle.ap_core.specs.Handles.{rules}
use Rattle.ap_books.specs.Counts.{drops}
use Rattle.ap_laws.specs.Headline.{LinkHolds}
use Rattle.ap_locked.specs.Kept.{entry_of}
use Rattle.ap_locked.specs.Pages.{on_page}
use Rattle.ap_locked.specs.Tokens.{Token}
use Rattle.ap_shards.specs.Judged.{JudgedBy}
use Rattle.ap_shards.specs.declared.fate.Fate.{Fate}
use Rattle.ap_shards.specs.declared.fate.Fate.TheVariants.{Decided, Refused, NotHandled}
use Rattle.versions.specs.Sets.{set_of}
use Rattle.ap_live.specs.Lives.{Live}
use Rattle.ap_live.specs.Serving.{Progress}
use Rattle.ap_live.specs.Upholding.{token_at}
use Rattle.ap_live.specs.Verdicts.{AreJudged}

-- The event was decided at the shard with this number and configuration, after all that had been decided there, of
-- which the token had seen a prefix: with these verdicts and outputs it is a step of the link from the readings that
-- this history leaves. The link's half of the main theorem holds of the whole journal with this entry at its end, which
-- the token then has seen, and which is the last of its own, and the last on its page.
pub record EntryHolds (c : Rules) (t : Token) (event : Event) (outs : List Out) (u : Token) : Type 0 where
  pub inside : c.shard < 8
  pub before : List Entry
  pub had_seen : IsPrefix t.seen before
  pub readings : Readings
  pub run : Run c opening before readings
  pub asked : List (Ask × ℕ)
  pub after : Readings
  pub step : Step c readings event asked outs after
  pub seen : u.seen ≡ before ++ entry_of event asked outs ∷ []
  pub own : u.own ≡ t.own ++ entry_of event asked outs ∷ []
  pub page : u.page ≡ on_page t.page (entry_of event asked outs)
  pub holds : LinkHolds c (before ++ entry_of event asked outs ∷ []) after

-- In addition, each verdict is that of an accepted program, within its budget, or of the verdict tables if there is
-- none: of the one whole published set that the worker then had seen, over its own tables, by the readings before the
-- entry. The flag says whether one of them dropped data.
pub record EventHolds (config : Config) (a : Live) (worker : ℕ) (p : Progress) (event : Event) (shard : ℕ) (outs : List Out) (dropped : Bool) (q : Progress) : Type 0 where
  pub entry : EntryHolds (rules shard config) (token_at shard p.shards) event outs (token_at shard q.shards)
  pub over : JudgedBy a.stock.maps worker q.seen.loads p.held q.held entry.readings entry.asked
  pub judged : AreJudged (set_of q.seen.loads) entry.asked
  pub flag : dropped ≡ drops entry.asked

-- the main theorem for an event that a worker took: one that was not decided changes no token
abbrev pub FateHolds : Config → Live → ℕ → Progress → Event → ℕ → Fate → Progress → Type 0
FateHolds config a worker p event shard (Decided outs dropped) q =
    EventHolds config a worker p event shard outs.items dropped q
FateHolds config a worker p event shard Refused q = q.shards ≡ p.shards
FateHolds config a worker p event shard NotHandled q = q.shards ≡ p.shards
