-- What the shards list, and what the tokens then have seen.
use Rattle.std.specs.Prelude.{◌≡◌, ℕ, List, [], ◌∷◌, ◌++◌}
use Rattle.ap_model.specs.Readings.{Config, Readings, Rules}
use Rattle.ap_model.specs.Runs.{Run, opening}
use Rattle.ap_locked.specs.Tokens.{KeepsOwn, Token, rules}
use Rattle.ap_shards.specs.Tokens.{Eight}

-- The token of the shard with this number and configuration then has seen the whole journal at one moment, and had seen
-- a prefix of it: a run from the opening, which leaves these readings. Its own entries and its parts are what they were.
pub record Looks (c : Rules) (t u : Token) (r : Readings) : Type 0 where
  pub run : Run c opening u.seen r
  pub keeps : KeepsOwn t u

-- the list of such readings was added to these rows
pub record AddsRows {X : Type 0} (Lists : Readings → List X → Type 0) (c : Rules) (t u : Token) (rows all : List X) : Type 0 where
  pub readings : Readings
  pub looks : Looks c t u readings
  pub more : List X
  pub lists : Lists readings more
  pub is : all ≡ rows ++ more

-- the readings of shards 0 to 7, in this order
abbrev pub eight_of : (ℕ → Readings) → List Readings
eight_of r = r 0 ∷ r 1 ∷ r 2 ∷ r 3 ∷ r 4 ∷ r 5 ∷ r 6 ∷ r 7 ∷ []

-- each token looked at its shard, under this configuration, which had these readings
pub record LookAll (config : Config) (a b : Eight) (r : ℕ → Readings) : Type 0 where
  pub of0 : Looks (rules 0 config) a.of0 b.of0 (r 0)
  pub of1 : Looks (rules 1 config) a.of1 b.of1 (r 1)
  pub of2 : Looks (rules 2 config) a.of2 b.of2 (r 2)
  pub of3 : Looks (rules 3 config) a.of3 b.of3 (r 3)
  pub of4 : Looks (rules 4 config) a.of4 b.of4 (r 4)
  pub of5 : Looks (rules 5 config) a.of5 b.of5 (r 5)
  pub of6 : Looks (rules 6 config) a.of6 b.of6 (r 6)
  pub of7 : Looks (rules 7 config) a.of7 b.of7 (r 7)

-- the rows are merged from the readings that the tokens looked at
pub record Shows {X : Type 0} (Merges : List Readings → List X → Type 0) (config : Config) (a b : Eight) (rows : List X) : Type 0 where
  pub readings : ℕ → Readings
  pub looks : LookAll config a b readings
  pub merges : Merges (eight_of readings) rows
