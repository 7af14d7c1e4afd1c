-- How a shard's history begins and continues.
use Rattle.std.proofs.Common.{◌≡◌, ℕ, List, [], ◌∷◌, ◌++◌, Result, Ok, Err, refl, sym, ap, subst}
use Rattle.std.specs.Prelude.{IfOk, IfErr}
use Rattle.std.proofs.Math.Logic.{∥∥₁_map}
use Rattle.ap_model.specs.declared.event.Event.{Event}
use Rattle.ap_model.specs.declared.event.Out.{Out}
use Rattle.ap_model.specs.Asks.{Ask}
use Rattle.ap_model.specs.Readings.{Readings, Rules, Config}
use Rattle.ap_model.specs.Steps.{Step}
use Rattle.ap_model.specs.Runs.{Entry, Run, rests, goes_on, opening, History}
use Rattle.ap_model.proofs.Appending.{run_append}
use Rattle.ap_core.specs.declared.state.State.{State}
use Rattle.ap_core.specs.Handles.{reading, rules}

-- nothing was handled
pub begun : (c : Rules) (r : Readings) → r ≡ opening → ∥ History c r ∥₁
begun c r e = ∣ record { entries = []; run = subst (λ (x : Readings). Run c opening [] x) (sym e) (rests opening) } ∣₁

-- an event is handled
pub longer : (c : Rules) (r r2 : Readings) (event : Event) (asked : List (Ask × ℕ)) (outs : List Out) → Step c r event asked outs r2 → ∥ History c r ∥₁ → ∥ History c r2 ∥₁
longer c r r2 event asked outs step past =
    let e : Entry = record { event = event; asked = asked; outs = outs } in
    ∥∥₁_map past (λ (h : History c r). record { entries = h.entries ++ e ∷ []; run = run_append c h.run (goes_on r r2 r2 e [] step (rests r2)) })

-- the readings are unchanged
pub same : (c c2 : Rules) (r r2 : Readings) → c2 ≡ c → r2 ≡ r → ∥ History c r ∥₁ → ∥ History c2 r2 ∥₁
same c c2 r r2 e f past = subst (λ (x : Rules). ∥ History x r2 ∥₁) (sym e) (subst (λ (x : Readings). ∥ History c x ∥₁) (sym f) past)

-- ---- what a call leaves

module _ (s s2 : State) (config : Config) (shard : s2.link.shard ≡ s.link.shard) (past : ∥ History (rules s.link.shard config) (reading s) ∥₁) where
  -- the call was a step
  pub went_on : (event : Event) (asked : List (Ask × ℕ)) (outs : List Out) → Step (rules s.link.shard config) (reading s) event asked outs (reading s2) →
      ∥ History (rules s2.link.shard config) (reading s2) ∥₁
  went_on event asked outs step =
      same (rules s.link.shard config) (rules s2.link.shard config) (reading s2) (reading s2) (ap (λ n. rules n config) shard) refl
      (longer (rules s.link.shard config) (reading s) (reading s2) event asked outs step past)

  pub stayed : s2 ≡ s → ∥ History (rules s2.link.shard config) (reading s2) ∥₁
  stayed e = same (rules s.link.shard config) (rules s2.link.shard config) (reading s) (reading s2) (ap (λ n. rules n config) shard) (ap reading e) past

  -- the call was a step, or was refused and changed nothing
  pub either : {T E : Type 0} {H : T → Type 0} {G : E → Type 0} (outs_of : T → List Out) (event : Event) (o : Result T E) →
      ((came : T) → H came → (asked : List (Ask × ℕ)) × Step (rules s.link.shard config) (reading s) event asked (outs_of came) (reading s2)) →
      ((e : E) → G e → s2 ≡ s) → IfOk o H → IfErr o G → ∥ History (rules s2.link.shard config) (reading s2) ∥₁
  either outs_of event (Ok came) step refused h g = let x = step came h in went_on event x.0 (outs_of came) x.1
  either outs_of event (Err e) step refused h g = stayed (refused e g)
