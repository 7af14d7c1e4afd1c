-- Readings of a history: all that a step needs of it.
use Rattle.std.specs.Prelude.{◌≡◌, ℕ, ◌↔◌, Option, Some, None, List, [], ◌∷◌, ◌++◌, reverse}
use Rattle.assoc.specs.Standings.{Standing}
use Rattle.blockack.specs.Reading.{Reads}
use Rattle.blockack.specs.Scoreboard.{ReadsScoreboard}
use Rattle.ap_model.specs.Readings.{Readings, Rules, Using}
use Rattle.ap_model.specs.Runs.{Entry, Handles, Run, opening}
use Rattle.ap_laws.specs.Exchanges.{Exchange, Exchanges, standing_after}
use Rattle.ap_laws.specs.Agreed.{Agreement, Agreed, clock_after}

-- the readings of an agreement: what its window holds from the start on, its scoreboard from the first number on, its
-- size, its timeout and its last use
pub record ReadsAgreement (g : Agreement) (u : Using) : Type 0 where
  pub window : Reads g.window u.window
  pub size : u.window.size ≡ g.size
  pub board : ReadsScoreboard g.board g.size u.window.scoreboard_start u.window.scoreboard_bits
  pub timeout : u.timeout ≡ g.timeout
  pub last_use : u.last_use ≡ g.last_use

-- the history's agreement has these readings, or there is none in both
abbrev pub ReadsAgreed : Option Agreement → Option Using → Type 0
ReadsAgreed None None = Unit {0}
ReadsAgreed None (Some u) = ⊥
ReadsAgreed (Some g) None = ⊥
ReadsAgreed (Some g) (Some u) = ReadsAgreement g u

-- a station's standing is what its exchanges say
pub record StandsBy (c : Rules) (h : List Entry) (a : List ℕ) (standing : Standing) : Type 0 where
  pub exchanges : List Exchange
  pub are : Exchanges c a h exchanges
  pub is : standing ≡ standing_after exchanges

-- the readings of its agreement for a TID are what the history says
pub record AgreesBy (c : Rules) (h : List Entry) (a : List ℕ) (tid : ℕ) (using : Option Using) : Type 0 where
  pub agreement : Option Agreement
  pub since : List Entry
  pub tells : Agreed c a tid h agreement since
  pub reads : ReadsAgreed agreement using

-- the readings of this history, whose newest entry is first
pub record IsReadingOf (c : Rules) (h : List Entry) (r : Readings) : Type 0 where
  pub standing : (a : List ℕ) → StandsBy c h a (r.standing a)
  pub agreement : (a : List ℕ) (tid : ℕ) → AgreesBy c h a tid (r.agreement a tid)
  pub clock : r.clock ≡ clock_after h

-- a run leaves readings of its history
abbrev pub RunsAreRead : Type 0
RunsAreRead = (c : Rules) (entries : List Entry) (r : Readings) → Run c opening entries r → IsReadingOf c (reverse entries) r

-- ---- steps and runs over histories

-- an entry follows a history: it is a step from some readings of it
pub record Follows (c : Rules) (h : List Entry) (e : Entry) : Type 0 where
  pub from : Readings
  pub reads : IsReadingOf c h from
  pub to : Readings
  pub step : Handles c from e to

-- each entry follows the history before it
pub data IsHistory (c : Rules) : List Entry → Type 0 where
  nothing_yet : IsHistory c []
  and_then : (h : List Entry) (e : Entry) → Follows c h e → IsHistory c h → IsHistory c (e ∷ h)

-- Readings are all that a step uses of a history: from any readings of it, the same entries follow.
abbrev pub ReadingsServe : Type 0
ReadingsServe =
    (c : Rules) (h : List Entry) (e : Entry) (r : Readings) → IsReadingOf c h r → (Follows c h e ↔ ((r2 : Readings) × Handles c r e r2))

-- A run may start from readings instead of their history: its entries extend that history, and it leaves readings of
-- the longer one.
abbrev pub ReadingsGoOn : Type 0
ReadingsGoOn =
    (c : Rules) (h entries : List Entry) (r r2 : Readings) → IsHistory c h → IsReadingOf c h r → Run c r entries r2 →
    IsHistory c (reverse entries ++ h) × IsReadingOf c (reverse entries ++ h) r2

-- so runs are exactly the histories
abbrev pub RunsAreHistories : Type 0
RunsAreHistories = (c : Rules) (entries : List Entry) → IsHistory c (reverse entries) ↔ ((r : Readings) × Run c opening entries r)
