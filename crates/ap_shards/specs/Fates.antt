-- How tokens change when an event is decided.
use Rattle.std.specs.Prelude.{◌≡◌, ◌==◌, ℕ, Bool, true, false, List, [], ◌∷◌, ◌++◌}
use mathlib.Core.List.{IsPrefix}
use Rattle.ap_model.specs.declared.event.Event.{Event}
use Rattle.ap_model.specs.declared.event.Out.{Out}
use Rattle.ap_model.specs.Asks.{Ask}
use Rattle.ap_model.specs.Readings.{Config, Readings, Rules}
use Rattle.ap_model.specs.Runs.{Entry, Run, opening}
use Rattle.ap_model.specs.Steps.{Step}
use Rattle.ap_books.specs.Counts.{counts_of, drops, gains}
use Rattle.ap_locked.specs.Kept.{entry_of}
use Rattle.ap_locked.specs.Pages.{on_page}
use Rattle.ap_locked.specs.Tokens.{Token, rules}
use Rattle.ap_shards.specs.declared.fate.Fate.{Fate}
use Rattle.ap_shards.specs.declared.fate.Fate.TheVariants.{Decided, Refused, NotHandled}
use Rattle.ap_shards.specs.Judged.{AnyVerdicts}
use Rattle.ap_shards.specs.Tokens.{Eight}

-- The event is one step of the link with these outputs, after the journal's entries so far: a run from the opening of
-- the shard with this number and configuration, of which the token had seen a prefix. `V` holds of the readings before
-- the step and the verdicts; the flag says whether one of them dropped data. The token then has seen the whole journal,
-- and gains exactly this entry of its own, on its page, which its parts have counted.
pub record Adds (V : Readings → List (Ask × ℕ) → Type 0) (c : Rules) (t : Token) (event : Event) (outs : List Out) (dropped : Bool) (u : Token) : Type 0 where
  pub before : List Entry
  pub had_seen : IsPrefix t.seen before
  pub readings : Readings
  pub run : Run c opening before readings
  pub asked : List (Ask × ℕ)
  pub verdicts : V readings asked
  pub after : Readings
  pub step : Step c readings event asked outs after
  pub flag : dropped ≡ drops asked
  pub seen : u.seen ≡ before ++ entry_of event asked outs ∷ []
  pub own : u.own ≡ t.own ++ entry_of event asked outs ∷ []
  pub page : u.page ≡ on_page t.page (entry_of event asked outs)
  pub portion : u.portion ≡ gains t.portion (counts_of outs dropped)

-- a token of that shard after this fate of an event: one that was not decided changes nothing
abbrev pub Comes : (Readings → List (Ask × ℕ) → Type 0) → Rules → Token → Event → Fate → Token → Type 0
Comes V c t event (Decided outs dropped) u = Adds V c t event outs.items dropped u
Comes V c t event Refused u = u ≡ t
Comes V c t event NotHandled u = u ≡ t

-- a token of that shard, after a command was decided
abbrev pub Acts : Rules → Token → Event → List Out → Token → Type 0
Acts c t event outs u = (dropped : Bool) × Adds AnyVerdicts c t event outs dropped u

-- P relates a token of this shard before and after; a token of another shard is unchanged
abbrev pub ChangesIf : Bool → (Token → Token → Type 0) → Token → Token → Type 0
ChangesIf true P t u = P t u
ChangesIf false P t u = u ≡ t

-- of the tokens of all shards, only that of shard s changes, as P says
pub record ChangesAt (s : ℕ) (P : Token → Token → Type 0) (a b : Eight) : Type 0 where
  pub of0 : ChangesIf (s == 0) P a.of0 b.of0
  pub of1 : ChangesIf (s == 1) P a.of1 b.of1
  pub of2 : ChangesIf (s == 2) P a.of2 b.of2
  pub of3 : ChangesIf (s == 3) P a.of3 b.of3
  pub of4 : ChangesIf (s == 4) P a.of4 b.of4
  pub of5 : ChangesIf (s == 5) P a.of5 b.of5
  pub of6 : ChangesIf (s == 6) P a.of6 b.of6
  pub of7 : ChangesIf (s == 7) P a.of7 b.of7

-- the tokens of all shards, after this fate of an event at one of them, under this configuration
abbrev pub ComesAt : (Readings → List (Ask × ℕ) → Type 0) → Config → ℕ → Eight → Event → Fate → Eight → Type 0
ComesAt V config s a event fate b = ChangesAt s (λ t u. Comes V (rules s config) t event fate u) a b

-- the tokens of all shards, after a command was decided at one of them
abbrev pub ActsAt : Config → ℕ → Eight → Event → List Out → Eight → Type 0
ActsAt config s a event outs b = ChangesAt s (λ t u. Acts (rules s config) t event outs u) a b
