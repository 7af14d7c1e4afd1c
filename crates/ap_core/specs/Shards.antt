-- What callers see of a shard.
use Rattle.std.specs.Prelude.{ℕ, Bool, List}
use Rattle.ap_model.specs.declared.event.Event.{Event}
use Rattle.ap_model.specs.declared.event.Out.{Out}
use Rattle.ap_model.specs.Asks.{Ask, Handled}
use Rattle.ap_model.specs.Readings.{Readings, Rules}
use Rattle.ap_model.specs.Steps.{Step}
use Rattle.ap_core.specs.declared.shard.Shard.{Shard}
use Rattle.ap_core.specs.Handles.{reading, rules}
use Rattle.ap_core.specs.Telling.{Tells}

-- what its next step needs of its history
abbrev pub reads : Shard → Readings
reads s = reading s.state

-- its number and configuration
abbrev pub ruled : Shard → Rules
ruled s = rules s.state.link.shard s.config

-- the event is one step of the shard, with the judge's verdicts
abbrev pub Handles : {S : Type 0} → (S → Ask → ℕ → S → Type 0) → Shard → Event → S → List Out → Shard → S → Type 0
Handles R s event j outs s2 j2 = Handled R (λ asked outs. Step (ruled s) (reads s) event asked outs (reads s2)) j outs j2

-- the same, and the flag says whether one of the verdicts dropped data
abbrev pub Decides : {S : Type 0} → (S → Ask → ℕ → S → Type 0) → Shard → Event → S → List Out → Bool → Shard → S → Type 0
Decides R s event j outs dropped s2 j2 = Tells R (λ asked outs. Step (ruled s) (reads s) event asked outs (reads s2)) j outs dropped j2
