-- What callers conclude from the one law.
use Rattle.std.proofs.Common.{ℕ, ◌<◌, Option, List, [], sym, subst}
use Rattle.std.proofs.Math.Logic.{∥∥₁_map}
use Rattle.ap_model.specs.declared.event.Event.{Event}
use Rattle.ap_model.specs.declared.event.Out.{Out}
use Rattle.ap_model.specs.Asks.{Ask}
use Rattle.ap_model.specs.Readings.{Readings, Rules, Config}
use Rattle.ap_model.specs.Runs.{Entry, Run, rests, opening, History}
use Rattle.ap_model.specs.AccessPoint.{InPlace, entries_of}
use Rattle.ap_laws.specs.Alongside.{Alongside, SameStarts}
use Rattle.ap_laws.specs.Appending.{Histories}
use Rattle.ap_laws.specs.Headline.{LinkHolds, AccessPointsHold, EventsHold, LinkWindowsStandApart}
use Rattle.ap_core.specs.declared.shard.Shard.{Shard}
use Rattle.ap_core.specs.Shards.{reads, ruled, Handles}
use Rattle.ap_core.specs.AccessPoints.{rules_of, readings_of, AreFresh, RunsAll}
use Rattle.uses_link.specs.Headline.{rules_by, HoldsFromNobody, HoldsOn, HoldsAtOne}

module _ {S : Type 0} (R : S → Ask → ℕ → S → Type 0) where
  -- shards that have handled nothing
  pub from_nobody : AccessPointsHold R → (config : Config) (old later : List Shard) (events : List Event) (j j2 : S) (results : List (Option (List Out))) →
      AreFresh config old → InPlace (rules_of old) → RunsAll R old events j results later j2 → HoldsFromNobody R config events j results j2
  from_nobody law config old later events j j2 results fresh place ran =
      let none : ℕ → List Entry = λ s. [] in
      let h =
      law (rules_of old) (readings_of old) (readings_of later) none events j j2 results place
      (λ s lt. subst (λ (r : Readings). Run (rules_of old s) opening [] r) (sym (fresh.readings s lt)) (rests opening)) ran.leads in
      record {
        readings = readings_of later;
        holds =
            record {
              turns = h.turns;
              are = h.are;
              listed = h.listed;
              shards = λ s lt. subst (λ (c : Rules). LinkHolds c (entries_of s h.turns) (readings_of later s)) (fresh.rules s lt) (h.shards s lt);
              identifiers = h.identifiers;
            };
      }

  -- any shards
  pub from_before : AccessPointsHold R → (old later : List Shard) (events : List Event) (j j2 : S) (results : List (Option (List Out))) →
      InPlace (rules_of old) → ∥ Histories (rules_of old) (readings_of old) ∥₁ → RunsAll R old events j results later j2 →
      ∥ HoldsOn R old events j results later j2 ∥₁
  from_before law old later events j j2 results place some ran =
      ∥∥₁_map some (λ h.
      record {
        entries = h.entries;
        before = h.runs;
        holds = law (rules_of old) (readings_of old) (readings_of later) h.entries events j j2 results place h.runs ran.leads;
      })

  -- any one shard
  pub at_one : EventsHold R → (old later : Shard) (event : Event) (j j2 : S) (outs : List Out) → ∥ History (ruled old) (reads old) ∥₁ →
      Handles R old event j outs later j2 → ∥ HoldsAtOne R old event j outs later j2 ∥₁
  at_one law old later event j j2 outs some handled =
      ∥∥₁_map some (λ h.
      record {
        entries = h.entries;
        before = h.run;
        holds = law (ruled old) (reads old) (reads later) h.entries event j j2 outs h.run handled;
      })

  -- two access points compared
  pub side_by_side : LinkWindowsStandApart → (config : Config) (events : List Event) (j j2 k k2 : S) (results others : List (Option (List Out))) →
      (one : HoldsFromNobody R config events j results j2) (other : HoldsFromNobody R config events k others k2) →
      ((s : ℕ) → s < 8 → Alongside (entries_of s one.holds.turns) (entries_of s other.holds.turns)) →
      (s : ℕ) → s < 8 → SameStarts (one.readings s) (other.readings s)
  side_by_side law config events j j2 k k2 results others one other alongside =
      law (rules_by config) (λ s. opening) one.readings other.readings (λ s. []) one.holds.turns other.holds.turns (λ s lt. rests opening)
      (λ s lt. (one.holds.shards s lt).run) (λ s lt. (other.holds.shards s lt).run) alongside
