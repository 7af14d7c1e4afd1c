-- What tokens uphold: what a token alone shows of the shards.
use Rattle.std.specs.Prelude.{◌≡◌, ◌==◌, ◌<◌, ℕ, if◌then◌else◌}
use Rattle.ap_model.specs.Readings.{Config, Readings, Rules}
use Rattle.ap_core.specs.Handles.{rules}
use Rattle.ap_laws.specs.Headline.{LinkHolds}
use Rattle.ap_books.specs.Counts.{Counts, counts_in, plus}
use Rattle.ap_locked.specs.Tokens.{EndsWith, IsAmong, Token}
use Rattle.ap_shards.specs.Tokens.{Eight}

-- the token of this shard, from 0 to 7
abbrev pub token_at : ℕ → Eight → Token
token_at s e =
    if s == 0 then e.of0 else (if s == 1 then e.of1 else (if s == 2 then e.of2 else (if s == 3 then e.of3 else
    (if s == 4 then e.of4 else (if s == 5 then e.of5 else (if s == 6 then e.of6 else e.of7))))))

-- The link's half of the main theorem holds, for the shard with this number and configuration, of all entries of its
-- journal that the token has seen, from the first on. Its own are among them in order, each at a position of its own,
-- and are the last on its page; and its parts of the ledgers have counted exactly its own.
pub record Upholds (c : Rules) (t : Token) : Type 0 where
  pub readings : Readings
  pub holds : LinkHolds c t.seen readings
  pub among : IsAmong t.own t.seen
  pub counted : t.portion.counts ≡ counts_in t.own
  pub on_page : EndsWith t.page.made t.own

-- it holds of each shard, under this configuration
abbrev pub UpholdAll : Config → Eight → Type 0
UpholdAll config e = (s : ℕ) → s < 8 → Upholds (rules s config) (token_at s e)

-- what the token's own entries count, of all shards together
abbrev pub own_counts : Eight → Counts
own_counts e =
    plus (plus (plus (plus (plus (plus (plus (counts_in e.of0.own) (counts_in e.of1.own)) (counts_in e.of2.own))
    (counts_in e.of3.own)) (counts_in e.of4.own)) (counts_in e.of5.own)) (counts_in e.of6.own)) (counts_in e.of7.own)
