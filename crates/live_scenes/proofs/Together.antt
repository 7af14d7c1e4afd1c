-- Two tokens that met.
use Rattle.std.proofs.Common.{◌≡◌, List, sym, subst}
use Rattle.ap_model.specs.Readings.{Config, Rules}
use Rattle.ap_model.specs.Runs.{Entry}
use Rattle.ap_locked.specs.Tokens.{IsAmong, KeepsOwn, Token, rules}
use Rattle.ap_shards.specs.Tokens.{Eight, HaveSeenAlike, KeepOwn}
use Rattle.ap_live.specs.Upholding.{Upholds, UpholdAll, token_at}
use Rattle.ap_live.proofs.Growing.{by_shard}
use Rattle.live_scenes.specs.Together.{AllStandTogether, StandTogether}

-- both tokens at one shard
both_stand : (rs : Rules) (t u t2 u2 : Token) → KeepsOwn t t2 → KeepsOwn u u2 → t2.seen ≡ u2.seen → Upholds rs t2 → Upholds rs u2 → StandTogether rs t.own u.own
both_stand rs t u t2 u2 k l same h g =
    record {
      journal = t2.seen;
      readings = h.readings;
      holds = h.holds;
      one = subst (λ (es : List Entry). IsAmong es t2.seen) k.own h.among;
      other = subst (λ (es : List Entry). IsAmong u.own es) (sym same) (subst (λ (es : List Entry). IsAmong es u2.seen) l.own g.among);
    }

-- both tokens at each shard
pub all_stand : (config : Config) (a b a2 b2 : Eight) → KeepOwn a a2 → KeepOwn b b2 → HaveSeenAlike a2 b2 → UpholdAll config a2 → UpholdAll config b2 → AllStandTogether config a b
all_stand config a b a2 b2 k l same h g s low =
    by_shard (λ s. Upholds (rules s config) (token_at s a2) → Upholds (rules s config) (token_at s b2) → StandTogether (rules s config) (token_at s a).own (token_at s b).own)
    (both_stand (rules 0 config) a.of0 b.of0 a2.of0 b2.of0 k.0 l.0 same.0) (both_stand (rules 1 config) a.of1 b.of1 a2.of1 b2.of1 k.1 l.1 same.1)
    (both_stand (rules 2 config) a.of2 b.of2 a2.of2 b2.of2 k.2 l.2 same.2) (both_stand (rules 3 config) a.of3 b.of3 a2.of3 b2.of3 k.3 l.3 same.3)
    (both_stand (rules 4 config) a.of4 b.of4 a2.of4 b2.of4 k.4 l.4 same.4) (both_stand (rules 5 config) a.of5 b.of5 a2.of5 b2.of5 k.5 l.5 same.5)
    (both_stand (rules 6 config) a.of6 b.of6 a2.of6 b2.of6 k.6 l.6 same.6) (both_stand (rules 7 config) a.of7 b.of7 a2.of7 b2.of7 k.7 l.7 same.7)
    s low (h s low) (g s low)
