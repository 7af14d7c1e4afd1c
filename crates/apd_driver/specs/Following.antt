-- How the operator of a run follows the lines of a script.
use Rattle.std.specs.Prelude.{◌≡◌, ℕ, ◌+◌, ◌<◌, ◌≤◌, List, [], ◌∷◌, ◌++◌, Option, Some, None}
use Rattle.ap_model.specs.AccessPoint.{shard_of}
use Rattle.ap_model.specs.declared.event.Event.{Event}
use Rattle.ap_model.specs.declared.event.Event.TheVariants as event
use Rattle.apd_script.specs.Asked.{Asked, Frame, Tick, Kick, Close, Load, Unload, Adopt, Store, Read, Sum, Wait}
use Rattle.apd_driver.specs.declared.actions.Action.{Action}
use Rattle.apd_driver.specs.declared.actions.Action.TheVariants as action
use Rattle.apd_driver.specs.declared.actions.Publication.{Publication}
use Rattle.apd_driver.specs.declared.actions.Publication.TheVariants as publication
use Rattle.apd_driver.specs.declared.actions.WordUse.{WordUse}
use Rattle.apd_driver.specs.declared.actions.WordUse.TheVariants as used
use Rattle.apd_driver.specs.declared.operating.Waiting.{Waiting}
use Rattle.apd_driver.specs.declared.reports.report.Report.{Report}
use Rattle.apd_driver.specs.declared.reports.report.Told.{Told}
use Rattle.apd_driver.specs.declared.reports.report.Told.TheVariants.{Memory}
use Rattle.apd_driver.specs.Semantics.{Semantics}

-- the line that asks for an event
abbrev pub for_event : Event → Asked
for_event (event.Frame bytes) = Frame bytes
for_event (event.Tick units) = Tick units
for_event (event.Kick station reason) = Kick station reason
for_event (event.Close station tid) = Close station tid

-- the line that asks for a change of a hook's program
abbrev pub for_publication : Publication → Asked
for_publication (publication.Load hook path) = Load hook path.now
for_publication (publication.Adopt hook path certificate) = Adopt hook path.now certificate.now
for_publication (publication.Unload hook) = Unload hook

-- the line that asks for a use of a word
abbrev pub for_use : WordUse → Asked
for_use (used.Store word value) = Store word value
for_use (used.Read word) = Read word
for_use (used.Sum word) = Sum word

-- the line that asks for an action
abbrev pub for_action : Action → Asked
for_action (action.Submit e) = for_event e
for_action (action.Publish p) = for_publication p
for_action (action.UseWord u) = for_use u
for_action action.Wait = Wait

-- the line asks for a frame
abbrev pub IsFrame : Asked → Type 0
IsFrame (Frame bytes) = Unit {0}
IsFrame _ = ⊥

-- the line asks for the value of a word
abbrev pub IsLook : Asked → Type 0
IsLook (Read word) = Unit {0}
IsLook (Sum word) = Unit {0}
IsLook _ = ⊥

-- the first of these shards: this one, or 0 for all
abbrev pub first_of : Option ℕ → ℕ
first_of None = 0
first_of (Some shard) = shard

-- the one after the last of them: there are 8
abbrev pub end_of : Option ℕ → ℕ
end_of None = 8
end_of (Some shard) = shard + 1

-- the first shard that an event concerns, and the one after the last
abbrev pub first_shard : Event → ℕ
first_shard e = first_of (shard_of e)

abbrev pub shard_end : Event → ℕ
shard_end e = end_of (shard_of e)

-- the event concerns this shard
pub record Concerns (e : Event) (shard : ℕ) : Type 0 where
  pub first_is : first_shard e ≤ shard
  pub within : shard < shard_end e

-- the event of the line with this number is put at each shard from `from` on, up to another, once, in their order
pub data PutsFrom (s : Semantics) (line : ℕ) (e : Event) (from : ℕ) (old : s.Work) : ℕ → s.Work → Type 0 where
  AtNone : PutsFrom s line e from old from old
  AtOneMore : (shard : ℕ) (mid new : s.Work) → PutsFrom s line e from old shard mid → s.Puts mid new line e shard
      → PutsFrom s line e from old (shard + 1) new

-- it is put at each shard that it concerns
abbrev pub PutsAll : (s : Semantics) → ℕ → Event → s.Work → s.Work → Type 0
PutsAll s line e old new = PutsFrom s line e (first_shard e) old (shard_end e) new

-- the event waits at a shard that it concerns: of the shards from `from` on, exactly those before that one got it
pub record WaitsAt (s : Semantics) (line : ℕ) (e : Event) (from : ℕ) (old new : s.Work) (w : Waiting) : Type 0 where
  pub event : w.event ≡ e
  pub concerned : Concerns e w.shard
  pub before : PutsFrom s line e from old w.shard new

-- what is told of the line with this number, if anything, as a report
abbrev pub told_of : ℕ → Option Told → List Report
told_of line None = []
told_of line (Some told) = record { line = line; shard = 0; told = told } ∷ []

-- The operator follows the line with this number, and makes these reports on it. An event is put at each shard that it
-- concerns; what else the line asks for is done. A frame for whose bytes there is no memory is not put.
pub data Follows (s : Semantics) (line : ℕ) (a : Asked) (old new : s.Work) : List Report → Type 0 where
  PutsIt : (e : Event) → a ≡ for_event e → PutsAll s line e old new → Follows s line a old new []
  DoesIt : (told : Option Told) → s.Does old new a told → Follows s line a old new (told_of line told)
  Waits : a ≡ Wait → new ≡ old → Follows s line a old new []
  LacksMemory : IsFrame a → new ≡ old → Follows s line a old new (told_of line (Some Memory))

-- the operator follows lines one after another, each once, and makes these reports on them, in order
pub data FollowsAll (s : Semantics) (old : s.Work) : List (ℕ × Asked) → s.Work → List Report → Type 0 where
  NoLine : FollowsAll s old [] old []
  OneMore : (lines : List (ℕ × Asked)) (line : ℕ) (a : Asked) (mid new : s.Work) (reports more : List Report) → FollowsAll s old lines mid reports
      → Follows s line a mid new more → FollowsAll s old (lines ++ (line, a) ∷ []) new (reports ++ more)

-- reports were taken over from workers, one worker after another, in this order
pub data TakesAll (s : Semantics) (old : s.Work) : s.Work → List Report → Type 0 where
  FromNone : TakesAll s old old []
  FromOneMore : (mid new : s.Work) (reports more : List Report) → TakesAll s old mid reports → s.Takes mid new more → TakesAll s old new (reports ++ more)

-- the operator reads or sums up words, or looks at what was decided, one after another, for a question
pub data Looks (s : Semantics) : s.Work → s.Work → Type 0 where
  AtNothing : (w : s.Work) → Looks s w w
  AtOne : (old new : s.Work) (a : Asked) (told : Option Told) → IsLook a → s.Does old new a told → Looks s old new
  AtRows : (old new : s.Work) → s.Sees old new → Looks s old new
  AtMore : (old mid new : s.Work) → Looks s old mid → Looks s mid new → Looks s old new

-- reports of this kind were appended to the list
pub record Lists (Kind : List Report → Type 0) (list list2 : List Report) : Type 0 where
  pub reports : List Report
  pub listed : list2 ≡ list ++ reports
  pub kind : Kind reports
