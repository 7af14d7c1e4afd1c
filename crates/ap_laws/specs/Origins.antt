-- Where data that is passed up came from.
use Rattle.std.specs.Prelude.{◌≡◌, ℕ, ◌+◌, ◌%◌, ◌<◌, ◌⊎◌, Option, Some, None, List, [], ◌∷◌, ◌++◌, Contains}
use Rattle.mac_types.specs.declared.fields.QosControl.{QosControl}
use Rattle.mac_frame.specs.declared.content.DataKind.{DataKind}
use Rattle.mac_frame.specs.declared.content.DataKind.TheVariants as kinds
use Rattle.mac_frame.specs.declared.content.Content.TheVariants as content
use Rattle.mac_frame.specs.Spelling.{Frame, IsFrame, spelling}
use Rattle.assoc.specs.Standings.{state_of}
use Rattle.blockack.specs.Reading.{held_at}
use Rattle.hooks.specs.declared.verdicts.DataVerdict.TheVariants.{Pass}
use Rattle.hooks.specs.Verdicts.{data_verdict}
use Rattle.ap_model.specs.declared.event.Event.TheVariants as event
use Rattle.ap_model.specs.declared.event.Out.TheVariants as out
use Rattle.ap_model.specs.declared.event.Up.{Up}
use Rattle.ap_model.specs.Asks.{Ask}
use Rattle.ap_model.specs.Readings.{Readings, Rules, Using}
use Rattle.ap_model.specs.Steps.{IsOurs}
use Rattle.ap_model.specs.Runs.{Entry, Handles, Run, opening}

-- a station is in State 3 (11.3.1)
abbrev pub IsAssociated : List ℕ → Readings → Type 0
IsAssociated a r = state_of (r.standing a) ≡ 3

-- kinds of frames that carry data; plain Data has no TID
pub data Carries : DataKind → Option ℕ → Type 0 where
  plain : Carries kinds.Data None
  with_qos : (qos : QosControl) → Carries (kinds.QosData qos) (Some qos.tid)

-- the entry is the arrival of this data: a frame for this access point that carries it, let through with its mark
pub record IsArrival (c : Rules) (e : Entry) (d : Up) : Type 0 where
  pub frame : Frame
  pub grammar : IsFrame frame
  pub came : e.event ≡ event.Frame (spelling frame)
  pub for_us : IsOurs c frame
  pub source : frame.sender ≡ d.source
  pub kind : DataKind
  pub content : frame.content ≡ content.Data d.destination d.number kind
  pub carries : Carries kind d.tid
  pub body : frame.tail ≡ d.body
  pub ask : Ask
  pub verdict : ℕ
  pub asked : e.asked ≡ (ask, verdict) ∷ []
  pub passes : data_verdict verdict ≡ Pass d.mark

module _ (c : Rules) where
  -- a run before each entry of which P holds
  pub data RunWhile (P : Readings → Type 0) : Readings → List Entry → Readings → Type 0 where
    rests : (r : Readings) → RunWhile P r [] r
    goes_on : (r mid r2 : Readings) (e : Entry) (later : List Entry) → P r → Handles c r e mid → RunWhile P mid later r2 → RunWhile P r (e ∷ later) r2

  -- this data arrived among these entries, and from then on its source was associated without interruption
  pub record ComesAssociated (r : Readings) (entries : List Entry) (r2 : Readings) (d : Up) : Type 0 where
    pub before : List Entry
    pub arrival : Entry
    pub after : List Entry
    pub all : entries ≡ before ++ (arrival ∷ after)
    pub at : Readings
    pub first : Run c r before at
    pub is : IsArrival c arrival d
    pub since : RunWhile (IsAssociated d.source) at (arrival ∷ after) r2

  -- the data was held when the entries began, and its source was associated all the time
  pub record WaitsAssociated (r : Readings) (entries : List Entry) (r2 : Readings) (d : Up) : Type 0 where
    pub tid : ℕ
    pub numbered : d.tid ≡ Some tid
    pub using : Using
    pub is : r.agreement d.source tid ≡ Some using
    pub place : ℕ
    pub held : held_at using.window place ≡ Some (Some (Some (d.destination, d.mark, d.body)))
    pub number : (using.window.start + place) % 4096 ≡ d.number
    pub since : RunWhile (IsAssociated d.source) r entries r2

-- what always holds of a shard's agreements: their stations are associated, and their windows start at sequence
-- numbers
pub record HoldsAgreements (r : Readings) : Type 0 where
  pub associated : (a : List ℕ) (tid : ℕ) (u : Using) → r.agreement a tid ≡ Some u → IsAssociated a r
  pub start : (a : List ℕ) (tid : ℕ) (u : Using) → r.agreement a tid ≡ Some u → u.window.start < 4096

-- it holds in the opening, which has no agreements
abbrev pub OpeningHoldsAgreements : Type 0
OpeningHoldsAgreements = HoldsAgreements opening

-- every run keeps it
abbrev pub RunHoldsAgreements : Type 0
RunHoldsAgreements = (c : Rules) (r r2 : Readings) (entries : List Entry) → HoldsAgreements r → Run c r entries r2 → HoldsAgreements r2

-- the origin of data that an entry passes up after a run from such readings
abbrev pub FromAnyReadings : Type 0
FromAnyReadings =
    (c : Rules) (r at r2 : Readings) (entries : List Entry) (e : Entry) (d : Up) →
    HoldsAgreements r → Run c r entries at → Handles c at e r2 → Contains e.outs (out.Up d) →
    ComesAssociated c r (entries ++ e ∷ []) r2 d ⊎ WaitsAssociated c r (entries ++ e ∷ []) r2 d

-- data passed up after a run from the opening came from a source that was associated from its arrival on
abbrev pub FromTheOpening : Type 0
FromTheOpening =
    (c : Rules) (at r2 : Readings) (entries : List Entry) (e : Entry) (d : Up) →
    Run c opening entries at → Handles c at e r2 → Contains e.outs (out.Up d) →
    ComesAssociated c opening (entries ++ e ∷ []) r2 d

-- data is passed up in some run, so these laws aren't vacuous
pub record SomeIsPassedUp : Type 0 where
  pub rules : Rules
  pub entries : List Entry
  pub at : Readings
  pub last : Readings
  pub passing : Entry
  pub passed : Up
  pub run : Run rules opening entries at
  pub step : Handles rules at passing last
  pub inside : Contains passing.outs (out.Up passed)
