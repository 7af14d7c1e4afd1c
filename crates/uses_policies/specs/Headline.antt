-- What callers conclude of an event at one shard that programs judge.
use Rattle.std.specs.Prelude.{ℕ, List, [], ◌∷◌, ◌++◌}
use Rattle.bpf_helpers.specs.Hooked.{Given}
use Rattle.ap_model.specs.declared.event.Event.{Event}
use Rattle.ap_model.specs.declared.event.Out.{Out}
use Rattle.ap_model.specs.Asks.{Ask, Answered}
use Rattle.ap_model.specs.Runs.{Entry, Run, opening}
use Rattle.ap_laws.specs.Headline.{LinkHolds}
use Rattle.ap_core.specs.declared.shard.Shard.{Shard}
use Rattle.ap_core.specs.Shards.{reads, ruled}
use Rattle.hook_judge.specs.Counted.{Counted}
use Rattle.hook_judge.specs.Verdicts.{GivesVerdict}
use Rattle.uses_policies.specs.declared.policies.Policies.{Policies}
use Rattle.uses_policies.specs.Policed.{loads_of, IsGiven}

-- The main theorem of an event at a shard that had handled these entries. Each verdict of the new entry is the R0 of a
-- run, within its budget, of the program accepted for the hook, or the number of the verdict tables. The programs read
-- the clock and the stations of the shard before the event, and take the worker's seats, draw word and counts from `h`
-- to `h'`. All laws of the link hold of the entries.
pub record EventHolds (p : Policies) (old : Shard) (event : Event) (h : Counted) (outs : List Out) (new : Shard) (h' : Counted) : Type 0 where
  pub entries : List Entry
  pub before : Run (ruled old) opening entries (reads old)
  pub given : Given
  pub is_given : IsGiven p (reads old) given
  pub asked : List (Ask × ℕ)
  pub verdicts : Answered (GivesVerdict given (loads_of p)) h asked h'
  pub holds : LinkHolds (ruled old) (entries ++ record { event = event; asked = asked; outs = outs } ∷ []) (reads new)
