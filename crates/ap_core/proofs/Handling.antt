-- Rules with no query, and rules with one.
use Rattle.std.proofs.Common.{◌≡◌, ℕ, Bool, true, false, ◌||◌, List, [], ◌∷◌, refl, ◌∙◌}
use Rattle.ap_model.specs.declared.event.Out.{Out}
use Rattle.ap_model.specs.Asks.{Ask, Handled}
use Rattle.ap_model.specs.Drops.{drops_by, drops}
use Rattle.ap_model.specs.Readings.{Readings, Using}
use Rattle.ap_model.specs.Changes.{Stays, Answers, Nothing}
use Rattle.ap_core.specs.Telling.{Tells}

pub unchanged : (r : Readings) → Stays r r
unchanged r = record { standing = λ q. refl; agreement = λ q t. refl; clock = refl }

-- `or` with false
or_none : (a : Bool) → a ≡ (a || false)
or_none true = refl
or_none false = refl

module _ {S : Type 0} (R : S → Ask → ℕ → S → Type 0) (step : List (Ask × ℕ) → List Out → Type 0) (j : S) (outs : List Out) where
  pub silently : step [] outs → Handled R step j outs j
  silently h = record { asked = []; listed = refl; does = h }

  pub asking : (j2 : S) (q : Ask) (v : ℕ) → R j q v j2 → step ((q, v) ∷ []) outs → Handled R step j outs j2
  asking j2 q v given h = record { asked = (q, v) ∷ []; listed = (j2, given, refl); does = h }

  -- without queries nothing is dropped
  pub silently_told : step [] outs → Tells R step j outs false j
  silently_told h = record { asked = []; listed = refl; does = h; flag = refl }

  -- one answer determines whether data is dropped
  pub asking_told : (j2 : S) (q : Ask) (v : ℕ) (dropped : Bool) → R j q v j2 → step ((q, v) ∷ []) outs → dropped ≡ drops_by q.hook v → Tells R step j outs dropped j2
  asking_told j2 q v dropped given h e = record { asked = (q, v) ∷ []; listed = (j2, given, refl); does = h; flag = e ∙ or_none (drops_by q.hook v) }

  -- a rule whose queries never drop data
  pub told_undropped : (j2 : S) → ((asked : List (Ask × ℕ)) → step asked outs → false ≡ drops asked) → Handled R step j outs j2 → Tells R step j outs false j2
  told_undropped j2 none h = record { asked = h.asked; listed = h.listed; does = h.does; flag = none h.asked h.does }

pub settled : (effect : Out) (outs : List Out) (r : Readings) → outs ≡ effect ∷ [] → Answers effect r [] outs r
settled effect outs r e = record { settles = record { silent = refl; is = e }; stays = unchanged r }

pub no_effect : (outs : List Out) (r : Readings) → outs ≡ [] → Nothing r [] outs r
no_effect outs r e = record { settles = record { silent = refl; is = e }; stays = unchanged r }

-- an agreement is its three parts
pub using_is : (v : Using) (timeout clock : ℕ) → v.timeout ≡ timeout → v.last_use ≡ clock → v ≡ record { window = v.window; timeout = timeout; last_use = clock }
using_is v timeout clock e f = λ i. record { window = v.window; timeout = e i; last_use = f i }

-- a rule's statement about its queries may be replaced by one that follows from it
pub told_by : {S : Type 0} {R : S → Ask → ℕ → S → Type 0} {step step2 : List (Ask × ℕ) → List Out → Type 0} {j j2 : S} {outs : List Out} {dropped : Bool} →
    ((asked : List (Ask × ℕ)) → step asked outs → step2 asked outs) → Tells R step j outs dropped j2 → Tells R step2 j outs dropped j2
told_by also h = record { asked = h.asked; listed = h.listed; does = also h.asked h.does; flag = h.flag }
