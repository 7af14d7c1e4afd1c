-- What tokens uphold.
use Rattle.std.proofs.Common.{◌≡◌}
use Rattle.ap_model.specs.Readings.{Config, Rules}
use Rattle.ap_core.specs.Handles.{rules}
use Rattle.ap_books.specs.Counts.{plus}
use Rattle.ap_laws.specs.Headline.{RunsHold}
use Rattle.ap_locked.specs.Tokens.{IsToken, Token}
use Rattle.ap_shards.specs.Tokens.{AreTokens, Eight}
use Rattle.ap_live.specs.Counting.{counted_by}
use Rattle.ap_live.specs.Upholding.{Upholds, UpholdAll, own_counts, token_at}
use Rattle.ap_live.proofs.Growing.{by_shard}

token_upholds : RunsHold → (rs : Rules) (t : Token) → IsToken rs t → Upholds rs t
token_upholds law rs t is =
    record {
      readings = is.handled.readings;
      holds = law rs is.handled.readings t.seen is.handled.run;
      among = is.among;
      counted = is.counted;
      on_page = is.on_page;
    }

pub all_uphold : RunsHold → (config : Config) (e : Eight) → AreTokens config e → UpholdAll config e
all_uphold law config e h s low =
    by_shard (λ s. Upholds (rules s config) (token_at s e)) (token_upholds law (rules 0 config) e.of0 h.0) (token_upholds law (rules 1 config) e.of1 h.1) (token_upholds law (rules 2 config) e.of2 h.2)
    (token_upholds law (rules 3 config) e.of3 h.3) (token_upholds law (rules 4 config) e.of4 h.4) (token_upholds law (rules 5 config) e.of5 h.5) (token_upholds law (rules 6 config) e.of6 h.6)
    (token_upholds law (rules 7 config) e.of7 h.7) s low

pub own_counted : (config : Config) (e : Eight) → AreTokens config e → counted_by e ≡ own_counts e
own_counted config e h i =
    plus (plus (plus (plus (plus (plus (plus (h.0.counted i) (h.1.counted i)) (h.2.counted i)) (h.3.counted i)) (h.4.counted i)) (h.5.counted i))
    (h.6.counted i)) (h.7.counted i)
