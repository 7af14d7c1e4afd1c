-- What an event leads to at an access point whose programs are tried.
use Rattle.std.specs.Prelude.{◌≡◌, ℕ, List, [], ◌∷◌, Option, Some, None}
use Rattle.bpf_helpers.specs.Hooked.{Given}
use Rattle.apd_eval.specs.Metered.{Metered}
use Rattle.ap_model.specs.declared.event.Event.{Event}
use Rattle.ap_model.specs.declared.event.Out.{Out}
use Rattle.ap_model.specs.AccessPoint.{EventsLead, shard_of}
use Rattle.ap_core.specs.declared.shard.Shard.{Shard}
use Rattle.ap_core.specs.AccessPoints.{rules_of, readings_of}
use Rattle.ap_single.specs.Leading.{IsGiven}
use Rattle.apd_eval.specs.Rulings.{GivesRuling}
use Rattle.apd_eval.specs.declared.ruling.Ruling.{Ruling}
use Rattle.apd_eval.specs.declared.tried.Policy.{Policy}

-- An event leads from these shards and seats to those, with this result, by the link's relation, whose verdicts are
-- those of the programs; `last` is the last query, if there was one.
pub record Leads (p : Policy) (e : Event) (result : Option (List Out)) (last : Option Ruling) (shards : List Shard) (h : Metered) (shards' : List Shard) (h' : Metered) : Type 0 where
  pub given : Given
  pub is_given : (s : ℕ) → shard_of e ≡ Some s → IsGiven p.maps.now (readings_of shards s) given
  pub leads : EventsLead (GivesRuling given p.programs.now) (rules_of shards) (readings_of shards) (e ∷ [])
      (record { held = h; last = None }) (result ∷ []) (readings_of shards') (record { held = h'; last = last })
  pub rules : (s : ℕ) → rules_of shards' s ≡ rules_of shards s

-- the same of an event that isn't refused
abbrev pub Happens : Policy → Event → Option Ruling → List Shard → Metered → List Shard → Metered → Type 0
Happens p e last shards h shards' h' = (outs : List Out) × Leads p e (Some outs) last shards h shards' h'
