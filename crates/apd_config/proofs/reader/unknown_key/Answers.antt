use Rattle.std.proofs.Common.{◌∙◌, rules, tests, not, string_bytes, String, Global, length, ap}
use Rattle.std.specs.List.{find}
use Rattle.std.specs.Map.Iter.{TakesFirst, deref}
use Rattle.std.proofs.lemmas.Iterator.{YieldsList}
use Rattle.std.proofs.lemmas.Iterator.Consumers.{YieldsList-from_shown}
use Rattle.std.proofs.lemmas.Iterator.Search.{find_from_yields_List}
use Rattle.apd_config.specs.Meaning.{is_key}
use Rattle.apd_config.proofs.TableKeys.{find_key}
use Rattle.apd_config.proofs.reader.unknown_key.Goals as goal

pub returns : goal.returns
returns c =
    let road : YieldsList (TakesFirst (deref {X = String Global})) deref c.keys.result c.keys.result =
    YieldsList-from_shown (TakesFirst deref) deref (λ s. s) (λ s t h. ap length h.0) (λ s x t h. h) c.keys.result in
    let first = find_from_yields_List (λ key. not (is_key (string_bytes key))) _ _ c.find.result c.find.ensures.ran road (λ x b q k. search (rules, tests)) in
    record { is = find_key (λ key. not (is_key key)) c.find.result c.args.table.now.entries (first ∙ ap (find (λ key. not (is_key (string_bytes key)))) c.keys.ensures.rest) }
