use Rattle.std.proofs.Common.{rules, ◌≡◌, ◌∙◌, ◌++◌, ap}
use Rattle.std.specs.String.{string_bytes}
use Rattle.apd_eval.specs.Unjudged.{json_reasons}
use Rattle.apd_eval.proofs.Lines.{same_both}
use Rattle.apd_eval.proofs.sums.json_sums.Goals as goal

pub returns : goal.returns
returns c =
    let second = c.in_ok-rest.ensures.is ∙ ap (λ r. json_reasons r) c.in_ok-reasons.ensures.is in
    let ended : string_bytes c.push_str.new.self ≡ string_bytes c.in_ok-text.text ++ string_bytes c.in_ok-rest.rest = search rules in
    record { is = ended ∙ same_both c.in_ok-text.ensures.is second }
