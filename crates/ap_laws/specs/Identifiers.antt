-- Association identifiers (IEEE 802.11-2016, 9.4.1.8).
use Rattle.std.specs.Prelude.{◌≡◌, ℕ, ◌<◌, Some, List}
use Rattle.assoc.specs.declared.standing.Known.TheVariants.{Associated}
use Rattle.assoc.specs.Standings.{IsOwn, NoneTwice}
use Rattle.ap_model.specs.Readings.{Readings, Rules}
use Rattle.ap_model.specs.Runs.{Entry, Run, opening}
use Rattle.ap_model.specs.AccessPoint.{Turn, InPlace, LinkRun}

-- the identifiers in use are the shard's own, and none is in use twice
pub record HoldsOnce (c : Rules) (r : Readings) : Type 0 where
  pub own : (a : List ℕ) (n : ℕ) → r.standing a ≡ Some (Associated n) → IsOwn c.shard n
  pub once : NoneTwice r.standing

-- in eight shards no two stations hold one identifier
abbrev pub NoTwoHold : (ℕ → Readings) → Type 0
NoTwoHold r =
    (s t : ℕ) (a b : List ℕ) (n : ℕ) → s < 8 → t < 8 →
    (r s).standing a ≡ Some (Associated n) → (r t).standing b ≡ Some (Associated n) → (s ≡ t) × (a ≡ b)

-- in the opening no association identifier is held
abbrev pub OpeningHoldsOnce : Type 0
OpeningHoldsOnce = (c : Rules) → HoldsOnce c opening

-- a run keeps that each association identifier of a shard is held at most once
abbrev pub RunHoldsOnce : Type 0
RunHoldsOnce = (c : Rules) (r r2 : Readings) (entries : List Entry) → HoldsOnce c r → Run c r entries r2 → HoldsOnce c r2

-- after a run of the link no two stations of any shards hold one association identifier
abbrev pub AccessPointHoldsOnce : Type 0
AccessPointHoldsOnce =
    (c : ℕ → Rules) (r r2 : ℕ → Readings) (turns : List Turn) →
    InPlace c → ((s : ℕ) → s < 8 → HoldsOnce (c s) (r s)) → LinkRun c r turns r2 → NoTwoHold r2
