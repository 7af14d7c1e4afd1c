-- What a caller of the link may conclude: the link's half of the main theorem.
use Rattle.std.specs.Prelude.{◌≡◌, ℕ, ◌<◌, ◌⊎◌, Option, Some, List, [], ◌∷◌, ◌++◌, Contains, reverse}
use Rattle.ap_model.specs.declared.event.Event.{Event}
use Rattle.ap_model.specs.declared.event.Out.{Out}
use Rattle.ap_model.specs.declared.event.Out.TheVariants as out
use Rattle.ap_model.specs.declared.event.Up.{Up}
use Rattle.ap_model.specs.Asks.{Ask, Answered, Handled}
use Rattle.ap_model.specs.Readings.{Readings, Rules}
use Rattle.ap_model.specs.Steps.{Step}
use Rattle.ap_model.specs.Runs.{Entry, Run, opening}
use Rattle.ap_model.specs.AccessPoint.{Turn, AreTurns, InPlace, LinkRun, EventsLead, entries_of, asked_of}
use Rattle.ap_laws.specs.Identifiers.{HoldsOnce, NoTwoHold}
use Rattle.ap_laws.specs.Origins.{ComesAssociated}
use Rattle.ap_laws.specs.Alongside.{Alongside, SameStarts}
use Rattle.ap_laws.specs.Agreed.{Agreement, Agreed, Opens, Ends, Drops, clock_after}
use Rattle.ap_laws.specs.InOrder.{Told, PassedInOrder, EndedInOrder, ups_of, ups_since}

-- ---- the entries that one shard has handled since the opening

module _ (c : Rules) (entries : List Entry) where
  -- Each frame that is passed up came when its source was associated, and the source was associated before every later
  -- entry, up to the one that passes it up.
  abbrev pub SourcesAssociated : Type 0
  SourcesAssociated =
      (before after : List Entry) (e : Entry) (d : Up) → entries ≡ before ++ (e ∷ after) → Contains e.outs (out.Up d) →
      (r : Readings) × ComesAssociated c opening (before ++ e ∷ []) r d

  -- At each moment they describe at most one agreement of each station for each TID.
  abbrev pub TellOfAgreements : Type 0
  TellOfAgreements = (before after : List Entry) (a : List ℕ) (tid : ℕ) → entries ≡ before ++ after → Told c (reverse before) a tid

  -- At each moment exactly the accepted numbers below the window's start of each agreement have been passed up since
  -- it was opened, once each, in increasing order.
  abbrev pub PassUpInOrder : Type 0
  PassUpInOrder =
      (before after : List Entry) (a : List ℕ) (tid : ℕ) (g : Agreement) (since : List Entry) → entries ≡ before ++ after →
      Agreed c a tid (reverse before) (Some g) since → PassedInOrder a tid g.window (ups_since a tid since)

  -- When an agreement ends or is replaced, all that it accepted has been passed up.
  abbrev pub EndInOrder : Type 0
  EndInOrder =
      (before after : List Entry) (e : Entry) (a : List ℕ) (tid : ℕ) (g : Agreement) (since : List Entry) → entries ≡ before ++ (e ∷ after) →
      Agreed c a tid (reverse before) (Some g) since →
      Ends c e a tid (clock_after (e ∷ reverse before)) g ⊎ ((new : Agreement) × Opens c e a tid (clock_after (e ∷ reverse before)) new) →
      EndedInOrder a tid g.window (ups_since a tid since ++ ups_of a tid e.outs)

  -- If an exchange of the station discards an agreement, that entry passes up nothing of it.
  abbrev pub DropInSilence : Type 0
  DropInSilence =
      (before after : List Entry) (e : Entry) (a : List ℕ) (tid : ℕ) (g : Agreement) (since : List Entry) → entries ≡ before ++ (e ∷ after) →
      Agreed c a tid (reverse before) (Some g) since → Drops c e a tid (clock_after (e ∷ reverse before)) → ups_of a tid e.outs ≡ []

  -- the main theorem of a shard, whose entries these are, and which leave these readings
  pub record LinkHolds (r : Readings) : Type 0 where
    pub run : Run c opening entries r
    pub sources : SourcesAssociated
    pub agreements : TellOfAgreements
    pub order : PassUpInOrder
    pub ends : EndInOrder
    pub drops : DropInSilence
    pub identifiers : HoldsOnce c r

-- it holds of every run from the opening
abbrev pub RunsHold : Type 0
RunsHold = (c : Rules) (r : Readings) (entries : List Entry) → Run c opening entries r → LinkHolds c entries r

-- ---- one event

-- what an event leads to at a shard that had handled these entries
pub record EventHolds {S : Type 0} (R : S → Ask → ℕ → S → Type 0) (c : Rules) (entries : List Entry) (event : Event) (j : S) (outs : List Out) (r2 : Readings) (j2 : S) : Type 0 where
  pub asked : List (Ask × ℕ)
  pub listed : Answered R j asked j2
  pub holds : LinkHolds c (entries ++ record { event = event; asked = asked; outs = outs } ∷ []) r2

-- it holds of each event that a shard handles after a run from the opening
abbrev pub EventsHold : {S : Type 0} → (S → Ask → ℕ → S → Type 0) → Type 0
EventsHold {S} R =
    (c : Rules) (r r2 : Readings) (entries : List Entry) (event : Event) (j j2 : S) (outs : List Out) → Run c opening entries r →
    Handled R (λ asked outs. Step c r event asked outs r2) j outs j2 → EventHolds R c entries event j outs r2 j2

-- ---- a whole access point

-- what a list of events leads to at eight shards that had handled these entries: turns of the shards give the outputs
-- of each event that was not refused, and their verdicts are the judge's
pub record AccessPointHolds {S : Type 0} (R : S → Ask → ℕ → S → Type 0) (c : ℕ → Rules) (entries : ℕ → List Entry) (events : List Event) (j : S)
    (results : List (Option (List Out))) (r2 : ℕ → Readings) (j2 : S) : Type 0 where
  pub turns : List Turn
  pub are : AreTurns events results turns
  pub listed : Answered R j (asked_of turns) j2
  pub shards : (s : ℕ) → s < 8 → LinkHolds (c s) (entries s ++ entries_of s turns) (r2 s)
  pub identifiers : NoTwoHold r2

-- it holds of each list of events at eight shards after runs from the opening
abbrev pub AccessPointsHold : {S : Type 0} → (S → Ask → ℕ → S → Type 0) → Type 0
AccessPointsHold {S} R =
    (c : ℕ → Rules) (r r2 : ℕ → Readings) (entries : ℕ → List Entry) (events : List Event) (j j2 : S) (results : List (Option (List Out))) →
    InPlace c → ((s : ℕ) → s < 8 → Run (c s) opening (entries s) (r s)) → EventsLead R c r events j results r2 j2 →
    AccessPointHolds R c entries events j results r2 j2

-- ---- windows

-- Two shards with one history that continue with the same events, and agree in all verdicts except those on data, have
-- the same agreements with the same window starts.
abbrev pub WindowsStandApart : Type 0
WindowsStandApart =
    (c : Rules) (r one other : Readings) (entries ones others : List Entry) → Run c opening entries r →
    Run c r ones one → Run c r others other → Alongside ones others → SameStarts one other

-- so do two access points, shard by shard
abbrev pub LinkWindowsStandApart : Type 0
LinkWindowsStandApart =
    (c : ℕ → Rules) (r one other : ℕ → Readings) (entries : ℕ → List Entry) (ones others : List Turn) →
    ((s : ℕ) → s < 8 → Run (c s) opening (entries s) (r s)) → LinkRun c r ones one → LinkRun c r others other →
    ((s : ℕ) → s < 8 → Alongside (entries_of s ones) (entries_of s others)) →
    (s : ℕ) → s < 8 → SameStarts (one s) (other s)
