-- How the readings of a shard change, and what is output.
use Rattle.std.specs.Prelude.{◌≡◌, ℕ, cond, Option, None, List, [], ◌∷◌, ◌==◌, ◌&&◌}
use Rattle.mac_frame.specs.Spelling.{Frame, spelling}
use Rattle.assoc.specs.Standings.{Standing, IsMoved, same_address}
use Rattle.ap_model.specs.declared.event.Out.{Out}
use Rattle.ap_model.specs.declared.event.Out.TheVariants.{Send}
use Rattle.ap_model.specs.Asks.{Ask}
use Rattle.ap_model.specs.Readings.{Readings, Using}

-- a frame is sent
abbrev pub sends : Frame → Out
sends frame = Send (spelling frame)

-- no judge is asked, and these are the outputs
pub record Settles (effects : List Out) (asked : List (Ask × ℕ)) (outs : List Out) : Type 0 where
  pub silent : asked ≡ []
  pub is : outs ≡ effects

-- exactly this query is asked, with this verdict
abbrev pub Asks : Ask → ℕ → List (Ask × ℕ) → Type 0
Asks ask verdict asked = asked ≡ (ask, verdict) ∷ []

-- nothing changes
pub record Stays (r r2 : Readings) : Type 0 where
  pub standing : (q : List ℕ) → r2.standing q ≡ r.standing q
  pub agreement : (q : List ℕ) (t : ℕ) → r2.agreement q t ≡ r.agreement q t
  pub clock : r2.clock ≡ r.clock

-- the standing of station a becomes s, its agreements are discarded with what they hold, and nothing else changes
pub record Moves (r : Readings) (a : List ℕ) (s : Standing) (r2 : Readings) : Type 0 where
  pub moves : IsMoved r.standing a s r2.standing
  pub discards : (q : List ℕ) (t : ℕ) → r2.agreement q t ≡ cond (same_address a q) None (r.agreement q t)
  pub clock : r2.clock ≡ r.clock

-- the agreement of station a for a TID becomes u, and nothing else changes
pub record Agrees (r : Readings) (a : List ℕ) (tid : ℕ) (u : Option Using) (r2 : Readings) : Type 0 where
  pub standing : (q : List ℕ) → r2.standing q ≡ r.standing q
  pub agreement : (q : List ℕ) (t : ℕ) → r2.agreement q t ≡ cond (same_address a q && (tid == t)) u (r.agreement q t)
  pub clock : r2.clock ≡ r.clock

-- a frame or a command that leads to nothing
pub record Nothing (r : Readings) (asked : List (Ask × ℕ)) (outs : List Out) (r2 : Readings) : Type 0 where
  pub settles : Settles [] asked outs
  pub stays : Stays r r2

-- a frame or a command that leads to this output alone, and changes nothing
pub record Answers (effect : Out) (r : Readings) (asked : List (Ask × ℕ)) (outs : List Out) (r2 : Readings) : Type 0 where
  pub settles : Settles (effect ∷ []) asked outs
  pub stays : Stays r r2
