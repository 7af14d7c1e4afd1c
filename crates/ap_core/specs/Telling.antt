-- Outputs, and whether data was dropped.
use Rattle.std.specs.Prelude.{◌≡◌, ℕ, Bool, List}
use Rattle.ap_model.specs.declared.event.Out.{Out}
use Rattle.ap_model.specs.Asks.{Ask, Answered}
use Rattle.ap_model.specs.Drops.{drops}

-- the relation holds with exactly the queries that the judge answered, and the flag says whether an answer dropped
-- data
pub record Tells {S : Type 0} (R : S → Ask → ℕ → S → Type 0) (step : List (Ask × ℕ) → List Out → Type 0) (j : S) (outs : List Out) (dropped : Bool) (j2 : S) : Type 0 where
  pub asked : List (Ask × ℕ)
  pub listed : Answered R j asked j2
  pub does : step asked outs
  pub flag : dropped ≡ drops asked
