-- The queries to a judge.
use Rattle.std.specs.Prelude.{◌≡◌, ◌∷◌, ℕ, List, []}
use Rattle.bpf_regions.specs.declared.hooks.Hook.{Hook}
use Rattle.ap_model.specs.declared.event.Out.{Out}

-- the hook, the frame's bytes, and the context's 32 bytes
pub record Ask : Type 0 where
  pub hook : Hook
  pub frame : List ℕ
  pub context : List ℕ

-- these queries got these answers, one after another
abbrev pub Answered : {S : Type 0} → (S → Ask → ℕ → S → Type 0) → S → List (Ask × ℕ) → S → Type 0
Answered {S} R p [] p2 = p2 ≡ p
Answered {S} R p (x ∷ l) p2 = (mid : S) × R p x.0 x.1 mid × Answered R mid l p2

-- the relation holds with exactly the queries that the judge answered, and its answers
pub record Handled {S : Type 0} (R : S → Ask → ℕ → S → Type 0) (step : List (Ask × ℕ) → List Out → Type 0) (j : S) (outs : List Out) (j2 : S) : Type 0 where
  pub asked : List (Ask × ℕ)
  pub listed : Answered R j asked j2
  pub does : step asked outs
