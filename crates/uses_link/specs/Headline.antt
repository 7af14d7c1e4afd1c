-- What callers of the link conclude.
use Rattle.std.specs.Prelude.{ℕ, ◌<◌, Option, List, []}
use Rattle.std.specs.Global.{Vec}
use Rattle.ap_model.specs.declared.event.Event.{Event}
use Rattle.ap_model.specs.declared.event.Out.{Out}
use Rattle.ap_model.specs.Asks.{Ask}
use Rattle.ap_model.specs.Readings.{Readings, Rules, Config}
use Rattle.ap_model.specs.Runs.{Entry, Run, opening}
use Rattle.ap_model.specs.AccessPoint.{entries_of}
use Rattle.ap_laws.specs.Alongside.{Alongside, SameStarts}
use Rattle.ap_laws.specs.Headline.{AccessPointHolds, EventHolds}
use Rattle.ap_core.specs.declared.shard.Shard.{Shard}
use Rattle.ap_core.specs.Shards.{reads, ruled}
use Rattle.ap_core.specs.AccessPoints.{rules_of, readings_of, outs_in}

-- the rules of shard s of this configuration
abbrev pub rules_by : Config → ℕ → Rules
rules_by config s = record { shard = s; config = config }

-- the main theorem of an access point that began with no stations, for some final readings of its shards
pub record HoldsFromNobody {S : Type 0} (R : S → Ask → ℕ → S → Type 0) (config : Config) (events : List Event) (j : S) (results : List (Option (List Out))) (j2 : S) : Type 0 where
  pub readings : ℕ → Readings
  pub holds : AccessPointHolds R (rules_by config) (λ s. []) events j results readings j2

-- the main theorem of eight shards, after the entries of some history
pub record HoldsOn {S : Type 0} (R : S → Ask → ℕ → S → Type 0) (old : List Shard) (events : List Event) (j : S) (results : List (Option (List Out))) (new : List Shard) (j2 : S) : Type 0 where
  pub entries : ℕ → List Entry
  pub before : (s : ℕ) → s < 8 → Run (rules_of old s) opening (entries s) (readings_of old s)
  pub holds : AccessPointHolds R (rules_of old) entries events j results (readings_of new) j2

-- the main theorem of one shard, after the entries of some history
pub record HoldsAtOne {S : Type 0} (R : S → Ask → ℕ → S → Type 0) (old : Shard) (event : Event) (j : S) (outs : List Out) (new : Shard) (j2 : S) : Type 0 where
  pub entries : List Entry
  pub before : Run (ruled old) opening entries (reads old)
  pub holds : EventHolds R (ruled old) entries event j outs (reads new) j2

-- the main theorem of two access points that began with no stations, and their windows compared
pub record HoldsTwice {S : Type 0} (R : S → Ask → ℕ → S → Type 0) (config : Config) (events : List Event) (j j2 k k2 : S) (results : Vec (Option (Vec Out)) × Vec (Option (Vec Out))) : Type 0 where
  pub one : HoldsFromNobody R config events j (outs_in results.0.items) j2
  pub other : HoldsFromNobody R config events k (outs_in results.1.items) k2
  pub windows : ((s : ℕ) → s < 8 → Alongside (entries_of s one.holds.turns) (entries_of s other.holds.turns)) →
      (s : ℕ) → s < 8 → SameStarts (one.readings s) (other.readings s)
