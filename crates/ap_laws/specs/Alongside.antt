-- Runs over the same events, with other verdicts on data.
use Rattle.std.specs.Prelude.{◌≡◌, ◌≢◌, ℕ, ◌<◌, Option, List, [], ◌∷◌, Contains}
use Rattle.std.specs.Option.{option_map}
use Rattle.bpf_regions.specs.declared.hooks.Hook.TheVariants as hook
use Rattle.ap_model.specs.Asks.{Ask}
use Rattle.ap_model.specs.Readings.{Readings, Rules}
use Rattle.ap_model.specs.Runs.{Entry, Run}
use Rattle.ap_model.specs.AccessPoint.{Turn, LinkRun, entries_of}
use Rattle.ap_laws.specs.Identifiers.{HoldsOnce}
use Rattle.ap_laws.specs.Origins.{HoldsAgreements}

-- the same event, and for each hook but the data hook the same verdicts
pub record AgreeButOnData (one other : Entry) : Type 0 where
  pub event : one.event ≡ other.event
  pub verdicts : (x y : Ask × ℕ) → Contains one.asked x → Contains other.asked y → x.0.hook ≡ y.0.hook → x.0.hook ≢ hook.Data → x.1 ≡ y.1

-- the same for lists, entry by entry
pub data Alongside : List Entry → List Entry → Type 0 where
  both_end : Alongside [] []
  both_go_on : (one other : Entry) (ones others : List Entry) →
      AgreeButOnData one other → Alongside ones others → Alongside (one ∷ ones) (other ∷ others)

-- the start of the window of a station's agreement for a TID, if there is one
abbrev pub window_start : Readings → List ℕ → ℕ → Option ℕ
window_start r a tid = option_map (λ u. u.window.start) (r.agreement a tid)

-- both readings have the same agreements, with the same window starts
abbrev pub SameStarts : Readings → Readings → Type 0
SameStarts one other = (a : List ℕ) (tid : ℕ) → window_start one a tid ≡ window_start other a tid

-- runs of one shard with such entries leave the same window starts
abbrev pub RunsLeaveSameStarts : Type 0
RunsLeaveSameStarts =
    (c : Rules) (r one other : Readings) (ones others : List Entry) →
    HoldsOnce c r → HoldsAgreements r → Run c r ones one → Run c r others other → Alongside ones others → SameStarts one other

-- so do runs of eight shards with such entries
abbrev pub LinkRunsLeaveSameStarts : Type 0
LinkRunsLeaveSameStarts =
    (c : ℕ → Rules) (r one other : ℕ → Readings) (ones others : List Turn) →
    ((s : ℕ) → s < 8 → HoldsOnce (c s) (r s)) → ((s : ℕ) → s < 8 → HoldsAgreements (r s)) →
    LinkRun c r ones one → LinkRun c r others other →
    ((s : ℕ) → s < 8 → Alongside (entries_of s ones) (entries_of s others)) →
    (s : ℕ) → s < 8 → SameStarts (one s) (other s)
