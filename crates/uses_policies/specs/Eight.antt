-- What callers conclude of events at eight shards that programs judge.
use Rattle.std.specs.Prelude.{◌≡◌, ℕ, ◌<◌, Option, List}
use Rattle.ap_model.specs.declared.event.Event.{Event}
use Rattle.ap_model.specs.declared.event.Out.{Out}
use Rattle.ap_model.specs.Readings.{Readings, Rules, Config}
use Rattle.ap_model.specs.Runs.{opening}
use Rattle.ap_model.specs.AccessPoint.{Turn, AreTurns, entries_of}
use Rattle.ap_laws.specs.Headline.{LinkHolds}
use Rattle.ap_laws.specs.Identifiers.{NoTwoHold}
use Rattle.ap_core.specs.declared.shard.Shard.{Shard}
use Rattle.ap_core.specs.AccessPoints.{rules_of, readings_of}
use Rattle.uses_policies.specs.declared.policies.Policies.{Policies}
use Rattle.uses_policies.specs.Policed.{PolicedRun}

-- turns give the results of these events at eight shards; the entries of each shard are a link run under the policies
pub record EventsPoliced (p : Policies) (old : List Shard) (events : List Event) (results : List (Option (List Out))) (new : List Shard) : Type 0 where
  pub turns : List Turn
  pub are : AreTurns events results turns
  pub runs : (s : ℕ) → s < 8 → PolicedRun p (rules_of old s) (readings_of old s) (entries_of s turns) (readings_of new s)
  pub rules : (s : ℕ) → rules_of new s ≡ rules_of old s

-- the rules of shard s of this configuration
abbrev pub rules_by : Config → ℕ → Rules
rules_by config s = record { shard = s; config = config }

-- The main theorem of an access point that began with no stations. Turns give the outputs of each event that was not
-- refused. The entries of each shard are a link run in which each verdict is the R0 of a run, within its budget, of the
-- program accepted for the hook, or the number of the verdict tables. Each frame that is passed up has a source that
-- was associated without interruption since its arrival; each agreement has passed up exactly the accepted numbers
-- below its window, once each, in increasing order; no two stations hold one identifier.
pub record HeadlineHolds (p : Policies) (config : Config) (events : List Event) (results : List (Option (List Out))) : Type 0 where
  pub turns : List Turn
  pub are : AreTurns events results turns
  pub readings : ℕ → Readings
  pub policed : (s : ℕ) → s < 8 → PolicedRun p (rules_by config s) opening (entries_of s turns) (readings s)
  pub link : (s : ℕ) → s < 8 → LinkHolds (rules_by config s) (entries_of s turns) (readings s)
  pub identifiers : NoTwoHold readings
