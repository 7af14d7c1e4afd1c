-- What a tick needs and does.
use Rattle.std.specs.Prelude.{◌≡◌, ℕ, ◌+◌, ◌-◌, ◌^◌, ◌≤◌, min, List, [], ◌∷◌, ◌++◌, length, count_by, vec_len, vec_capacity}
use Rattle.blockack.specs.Reading.{EndPassesUp}
use Rattle.ap_model.specs.declared.event.Out.{Out}
use Rattle.ap_model.specs.Readings.{Readings, Rules, Held}
use Rattle.ap_model.specs.Agreements.{ups, delba}
use Rattle.ap_model.specs.Steps.{Ticks}
use Rattle.ap_agreements.specs.Tables.{Kept, is_late, late_held, all_held}
use Rattle.ap_core.specs.declared.state.State.{State}
use Rattle.ap_core.specs.declared.ticks.TickRoom.{TickRoom}

-- the clock after this many more units, at most 2^64 - 1
abbrev pub clock_after : State → ℕ → ℕ
clock_after s units = min (s.clock + units) (2 ^ 64 - 1)

-- how many agreements end at the tick
abbrev pub late_count : State → ℕ → ℕ
late_count s units = count_by (λ k. is_late (clock_after s units) k.using) s.agreements.kept

-- the most outputs that their ends can have: the frames that they hold, and a DELBA each
abbrev pub late_outs : State → ℕ → ℕ
late_outs s units = late_held (clock_after s units) s.agreements.kept + late_count s units

-- the most outputs that the ends of these agreements can have
abbrev pub outs_of_ends : List Kept → ℕ
outs_of_ends ks = all_held ks + length ks

-- the memory suffices for the agreements that end
pub record HasRoom (s : State) (units : ℕ) (room : TickRoom) : Type 0 where
  pub empty : room.ended.items ≡ []
  pub ended : late_count s units ≤ vec_capacity room.ended
  pub frames : late_count s units ≤ vec_len room.frames

-- these agreements end in turn, with these outputs
pub data EndInOrder (c : Rules) : List Kept → List Out → Type 0 where
  no_more : EndInOrder c [] []
  next_ends : (k : Kept) (ks : List Kept) (passed : List (ℕ × Held)) (rest : List Out) →
      EndPassesUp k.using.window passed → EndInOrder c ks rest →
      EndInOrder c (k ∷ ks) (ups k.station k.tid passed ++ (delba c k.station k.tid 39 ∷ rest))

-- one end, appended to the outputs
pub record EndsOne (c : Rules) (k : Kept) (old new : List Out) : Type 0 where
  pub passed : List (ℕ × Held)
  pub ends : EndPassesUp k.using.window passed
  pub is : new ≡ old ++ (ups k.station k.tid passed ++ delba c k.station k.tid 39 ∷ [])

-- all of them, appended to the outputs
pub record EndsAll (c : Rules) (ks : List Kept) (old new : List Out) : Type 0 where
  pub more : List Out
  pub ends : EndInOrder c ks more
  pub is : new ≡ old ++ more

-- the tick is a step, and its outputs are appended
pub record TickStep (c : Rules) (r : Readings) (units : ℕ) (old new : List Out) (r2 : Readings) : Type 0 where
  pub more : List Out
  pub is : new ≡ old ++ more
  pub step : Ticks c r units [] more r2
