-- What is passed up of an agreement (IEEE 802.11-2016, 10.24.7.6.1).
use Rattle.std.specs.Prelude.{◌≡◌, ◌≢◌, ℕ, ◌<◌, ◌↔◌, ◌⊎◌, ◌==◌, ◌&&◌, Bool, false, Option, Some, None, IsSome, List, [], ◌∷◌, ◌++◌, if◌then◌else◌, AllPairs, Contains, reverse}
use Rattle.assoc.specs.Standings.{same_address}
use Rattle.blockack.specs.Window.{Window, EndStep}
use Rattle.blockack.specs.Passed.{numbered}
use Rattle.ap_model.specs.declared.event.Out.{Out}
use Rattle.ap_model.specs.declared.event.Out.TheVariants as out
use Rattle.ap_model.specs.Readings.{Readings, Rules, Held}
use Rattle.ap_model.specs.Agreements.{ups}
use Rattle.ap_model.specs.Runs.{Entry, Handles, Run, opening}
use Rattle.ap_laws.specs.Agreed.{Agreement, Agreed, Opens, Ends, Drops, clock_after}

-- whether data with this TID, if any, counts for a TID
abbrev pub is_tid : ℕ → Option ℕ → Bool
is_tid tid None = false
is_tid tid (Some t) = tid == t

-- whether an output is data of that station with that TID, passed up
abbrev pub is_up_of : List ℕ → ℕ → Out → Bool
is_up_of a tid (out.Up d) = same_address a d.source && is_tid tid d.tid
is_up_of a tid (out.Send bytes) = false
is_up_of a tid (out.Note number) = false

-- the data of a station with a TID that a list of outputs passes up
abbrev pub ups_of : List ℕ → ℕ → List Out → List Out
ups_of a tid [] = []
ups_of a tid (o ∷ outs) = if is_up_of a tid o then o ∷ ups_of a tid outs else ups_of a tid outs

-- the same for entries, the newest first; the result has the oldest first
abbrev pub ups_since : List ℕ → ℕ → List Entry → List Out
ups_since a tid [] = []
ups_since a tid (e ∷ older) = ups_since a tid older ++ ups_of a tid e.outs

-- the accepted numbers below the window's start: those that it took with a verdict that let them through, once each,
-- in increasing order, each with its frame
pub record AreBelow (window : Window Held) (frames : List (ℕ × Held)) : Type 0 where
  pub rising : AllPairs (λ p q. p.0 < q.0) frames
  pub exact : (n : ℕ) (frame : Held) → Contains frames (n, frame) ↔ ((n < window.start) × (window.taken n ≡ Some (Some frame)))

-- exactly these were passed up, in this order
pub record PassedInOrder (a : List ℕ) (tid : ℕ) (window : Window Held) (passed : List Out) : Type 0 where
  pub frames : List (ℕ × Held)
  pub below : AreBelow window frames
  pub are : passed ≡ ups a tid (numbered frames)

-- what a history says of the agreement of a station for a TID, if there is one, and the entries since; nothing else
-- fits
pub record Told (c : Rules) (h : List Entry) (a : List ℕ) (tid : ℕ) : Type 0 where
  pub agreement : Option Agreement
  pub since : List Entry
  pub tells : Agreed c a tid h agreement since
  pub only : (g : Option Agreement) (others : List Entry) → Agreed c a tid h g others → (g ≡ agreement) × (others ≡ since)

-- ---- over whole runs

-- a history describes at most one agreement per station and TID
abbrev pub TellsOne : Type 0
TellsOne = (c : Rules) (entries : List Entry) (r : Readings) (a : List ℕ) (tid : ℕ) → Run c opening entries r → Told c (reverse entries) a tid

-- each agreement that a history describes has passed up its data in order
abbrev pub GoesOnInOrder : Type 0
GoesOnInOrder =
    (c : Rules) (entries : List Entry) (r : Readings) (a : List ℕ) (tid : ℕ) → Run c opening entries r →
    (g : Agreement) (since : List Entry) → Agreed c a tid (reverse entries) (Some g) since → PassedInOrder a tid g.window (ups_since a tid since)

-- the order at its end or replacement, when the window has moved past the last number that it took
pub record EndedInOrder (a : List ℕ) (tid : ℕ) (old : Window Held) (passed : List Out) : Type 0 where
  pub last : Window Held
  pub ends : EndStep old last
  pub order : PassedInOrder a tid last passed

-- what an agreement passed up, until it ended or was replaced, was in order
abbrev pub EndsInOrder : Type 0
EndsInOrder =
    (c : Rules) (entries : List Entry) (r r2 : Readings) (e : Entry) (a : List ℕ) (tid : ℕ) → Run c opening entries r → Handles c r e r2 →
    (g : Agreement) (since : List Entry) → Agreed c a tid (reverse entries) (Some g) since →
    Ends c e a tid (clock_after (e ∷ reverse entries)) g ⊎ ((new : Agreement) × Opens c e a tid (clock_after (e ∷ reverse entries)) new) →
    EndedInOrder a tid g.window (ups_since a tid since ++ ups_of a tid e.outs)

-- an entry that discards an agreement passes up nothing of it
abbrev pub DropsSilently : Type 0
DropsSilently =
    (c : Rules) (entries : List Entry) (r r2 : Readings) (e : Entry) (a : List ℕ) (tid : ℕ) → Run c opening entries r → Handles c r e r2 →
    (g : Agreement) (since : List Entry) → Agreed c a tid (reverse entries) (Some g) since →
    Drops c e a tid (clock_after (e ∷ reverse entries)) → ups_of a tid e.outs ≡ []

-- an agreement passes data up in some run, so these laws aren't vacuous
pub record SomeIsPassedInOrder : Type 0 where
  pub rules : Rules
  pub entries : List Entry
  pub at : Readings
  pub last : Readings
  pub passing : Entry
  pub station : List ℕ
  pub tid : ℕ
  pub run : Run rules opening entries at
  pub step : Handles rules at passing last
  pub agreed : IsSome (at.agreement station tid)
  pub some : ups_of station tid passing.outs ≢ []
