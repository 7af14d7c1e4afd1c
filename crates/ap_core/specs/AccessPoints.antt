-- Eight shards, and how they handle a list of events.
use Rattle.std.specs.Prelude.{◌≡◌, ℕ, zero, suc, ◌<◌, ◌≤◌, Option, List, [], ◌∷◌, ◌++◌, map, length, slice_index_or}
use Rattle.std.specs.Option.{option_map}
use Rattle.std.specs.Global.{Vec}
use Rattle.ap_model.specs.declared.event.Event.{Event}
use Rattle.ap_model.specs.declared.event.Out.{Out}
use Rattle.ap_model.specs.Asks.{Ask}
use Rattle.ap_model.specs.Readings.{Readings, Rules, Config}
use Rattle.ap_model.specs.Steps.{Ticks}
use Rattle.ap_model.specs.Runs.{opening}
use Rattle.ap_model.specs.AccessPoint.{EventsLead}
use Rattle.ap_core.specs.declared.shard.Shard.{Shard}
use Rattle.ap_core.specs.Shards.{reads, ruled}

-- the value if there is no shard
abbrev pub no_rules : Rules
no_rules = record { shard = 0; config = record { bssid = []; ssid = []; rates = [] } }

-- the number and configuration of the shard at each index
abbrev pub rules_of : List Shard → ℕ → Rules
rules_of shards s = slice_index_or (map ruled shards) s no_rules

-- the readings of the shard at each index
abbrev pub readings_of : List Shard → ℕ → Readings
readings_of shards s = slice_index_or (map reads shards) s opening

-- the outputs of each event, as lists
abbrev pub outs_in : List (Option (Vec Out)) → List (Option (List Out))
outs_in results = map (option_map (λ outs. outs.items)) results

-- the events led to these results, with the judge's verdicts, and numbers and configurations are unchanged
pub record RunsAll {S : Type 0} (R : S → Ask → ℕ → S → Type 0) (old : List Shard) (events : List Event) (j : S) (results : List (Option (List Out))) (new : List Shard) (j2 : S) : Type 0 where
  pub leads : EventsLead R (rules_of old) (readings_of old) events j results (readings_of new) j2
  pub rules : (s : ℕ) → rules_of new s ≡ rules_of old s

-- a shard of this configuration and number that has handled nothing
pub record IsFresh (config : Config) (number : ℕ) (s : Shard) : Type 0 where
  pub rules : ruled s ≡ record { shard = number; config = config }
  pub readings : reads s ≡ opening

-- shards of a configuration that have handled nothing, each at the index of its number
pub record AreFresh (config : Config) (shards : List Shard) : Type 0 where
  pub rules : (s : ℕ) → s < 8 → rules_of shards s ≡ record { shard = s; config = config }
  pub readings : (s : ℕ) → s < 8 → readings_of shards s ≡ opening

-- the same for one event
abbrev pub RunsOne : {S : Type 0} → (S → Ask → ℕ → S → Type 0) → List Shard → Event → S → Option (List Out) → List Shard → S → Type 0
RunsOne R old e j result new j2 = RunsAll R old (e ∷ []) j (result ∷ []) new j2

-- the outputs of the first shards, one after another
abbrev pub joined : ℕ → (ℕ → List Out) → List Out
joined zero parts = []
joined (suc n) parts = joined n parts ++ parts n

-- the first shards ticked, and the others are unchanged
pub record TickedBelow (count units : ℕ) (old new : List Shard) (outs : List Out) : Type 0 where
  pub many : length new ≡ length old
  pub parts : ℕ → List Out
  pub is : outs ≡ joined count parts
  pub steps : (s : ℕ) (d : Shard) → s < count →
      Ticks (ruled (slice_index_or old s d)) (reads (slice_index_or old s d)) units [] (parts s) (reads (slice_index_or new s d))
  pub rules : (s : ℕ) (d : Shard) → s < count → ruled (slice_index_or new s d) ≡ ruled (slice_index_or old s d)
  pub others : (s : ℕ) (d : Shard) → count ≤ s → slice_index_or new s d ≡ slice_index_or old s d
