-- What a shard handles, entry by entry.
use Rattle.std.specs.Prelude.{ℕ, List, [], ◌∷◌, None}
use Rattle.ap_model.specs.declared.event.Event.{Event}
use Rattle.ap_model.specs.declared.event.Out.{Out}
use Rattle.ap_model.specs.Asks.{Ask}
use Rattle.ap_model.specs.Readings.{Readings, Rules}
use Rattle.ap_model.specs.Steps.{Step}

-- a handled event: its queries, each with its answer, and its outputs
pub record Entry : Type 0 where
  pub event : Event
  pub asked : List (Ask × ℕ)
  pub outs : List Out

-- the readings of a shard that has handled nothing
abbrev pub opening : Readings
opening = record { standing = λ a. None; agreement = λ a tid. None; clock = 0 }

module _ (c : Rules) where
  -- an entry is a step from these readings to those
  abbrev pub Handles : Readings → Entry → Readings → Type 0
  Handles r e r2 = Step c r e.event e.asked e.outs r2

  -- entries, each a step after those before it
  pub data Run : Readings → List Entry → Readings → Type 0 where
    rests : (r : Readings) → Run r [] r
    goes_on : (r mid r2 : Readings) (e : Entry) (later : List Entry) → Handles r e mid → Run mid later r2 → Run r (e ∷ later) r2

-- a history of these readings: a run from the opening that leaves them
pub record History (c : Rules) (r : Readings) : Type 0 where
  pub entries : List Entry
  pub run : Run c opening entries r
