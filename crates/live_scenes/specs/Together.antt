-- The own entries of two tokens, in one journal.
use Rattle.std.specs.Prelude.{◌<◌, ℕ, List}
use Rattle.ap_model.specs.Readings.{Config, Readings, Rules}
use Rattle.ap_model.specs.Runs.{Entry}
use Rattle.ap_laws.specs.Headline.{LinkHolds}
use Rattle.ap_locked.specs.Tokens.{IsAmong, rules}
use Rattle.ap_shards.specs.Tokens.{Eight}
use Rattle.ap_live.specs.Upholding.{token_at}

-- One journal of a shard contains what one and the other decided there, each entry of a list at a position of its own
-- and in the list's order. The link's laws hold of that journal from its first entry on, for the shard with this number
-- and configuration.
pub record StandTogether (c : Rules) (ones others : List Entry) : Type 0 where
  pub journal : List Entry
  pub readings : Readings
  pub holds : LinkHolds c journal readings
  pub one : IsAmong ones journal
  pub other : IsAmong others journal

-- the same at each shard, for the own entries of two tokens
abbrev pub AllStandTogether : Config → Eight → Eight → Type 0
AllStandTogether config a b = (s : ℕ) → s < 8 → StandTogether (rules s config) (token_at s a).own (token_at s b).own
