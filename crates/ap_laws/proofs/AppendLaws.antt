-- Runs one after another, and eight histories at once.
use Rattle.std.proofs.Common.{◌≡◌, ◌≢◌, ℕ, zero, suc, ◌<◌, Bool, true, false, cond, List, [], refl, sym, subst, arith}
use Rattle.std.specs.Prelude.{◌==◌}
use Rattle.std.proofs.Math.Logic.{∥∥₁_map, ∥∥₁_map₂}
use Rattle.std.proofs.lemmas.Bool.Decides.{nat_tests}
use Rattle.ap_model.specs.Asks.{Ask}
use Rattle.ap_model.specs.Readings.{Readings, Rules}
use Rattle.ap_model.specs.Runs.{Entry, Run, opening, History}
use Rattle.ap_model.proofs.Appending.{run_append, leads_append}
use Rattle.ap_laws.specs.Appending.{RunsAppend, LeadsAppend, HistoriesMeet}

pub runs_append : RunsAppend
runs_append c r mid r2 first more one other = run_append c one other

pub leads_append_so : {S : Type 0} (R : S → Ask → ℕ → S → Type 0) → LeadsAppend R
leads_append_so R c r mid r2 events more j k l results others one other = leads_append R c r mid r2 events more j k l results others one other

module _ (c : ℕ → Rules) (r : ℕ → Readings) where
  -- histories of the first n shards
  record Below (n : ℕ) : Type 0 where
    pub entries : ℕ → List Entry
    pub runs : (s : ℕ) → s < n → Run (c s) opening (entries s) (r s)

  module _ (n : ℕ) (b : Below n) (h : History (c n) (r n)) where
    run_by : (s : ℕ) (t : Bool) → (s == n) ≡ t → s < suc n → Run (c s) opening (cond t h.entries (b.entries s)) (r s)
    run_by s true e lt = let f : s ≡ n = grind (arith, nat_tests) in subst (λ (k : ℕ). Run (c k) opening h.entries (r k)) (sym f) h.run
    run_by s false e lt = let f : s ≢ n = grind (arith, nat_tests) in b.runs s (omega (arith, f, lt))

    one_more : Below (suc n)
    one_more = record { entries = λ s. cond (s == n) h.entries (b.entries s); runs = λ s lt. run_by s (s == n) refl lt }

  below : (n : ℕ) → ((s : ℕ) → s < n → ∥ History (c s) (r s) ∥₁) → ∥ Below n ∥₁
  below zero some = ∣ record { entries = λ s. []; runs = λ s lt. absurd (omega (arith, lt)) } ∣₁
  below (suc n) some = ∥∥₁_map₂ (below n (λ s lt. some s (omega (arith, lt)))) (some n (omega arith)) (one_more n)

pub histories_meet : HistoriesMeet
histories_meet c r some = ∥∥₁_map (below c r 8 some) (λ b. record { entries = b.entries; runs = b.runs })
