-- Values and the fields that spell them.
use Rattle.std.specs.Prelude.{◌≡◌, ℕ, ◌<◌, Bool, true}

-- each value's field is below `limit` and passes the test; a field below `limit` that passes spells exactly one
-- value
pub record IsSpelling
    {V : Type 0} (limit : ℕ) (Fits : V → Type 0) (field_of : V → ℕ) (test : ℕ → Bool) : Type 0 where
  pub below : (v : V) → Fits v → field_of v < limit
  pub passes : (v : V) → Fits v → test (field_of v) ≡ true
  pub found :
      (field : ℕ) → field < limit → test field ≡ true → (v : V) × Fits v × (field ≡ field_of v)
  pub one : (v w : V) → Fits v → Fits w → field_of v ≡ field_of w → v ≡ w
