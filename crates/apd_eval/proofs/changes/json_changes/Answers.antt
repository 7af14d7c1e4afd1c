use Rattle.std.proofs.Common.{rules, ◌≡◌, ◌∙◌, ◌++◌, ap}
use Rattle.std.specs.String.{string_bytes}
use Rattle.apd_eval.specs.Changes.{json_both}
use Rattle.apd_eval.specs.Unjudged.{json_reasons}
use Rattle.apd_eval.proofs.Lines.{same_both}
use Rattle.apd_eval.proofs.changes.json_changes.Goals as goal

pub returns : goal.returns
returns c =
    let first = c.in_ok-text.ensures.is ∙ ap (λ n. json_both c.args.course.judged n c.args.course.changed) c.count.ensures.is in
    let second = c.in_ok-rest.ensures.is ∙ ap (λ r. json_reasons r) c.in_ok-reasons.ensures.is in
    let ended : string_bytes c.push_str.new.self ≡ string_bytes c.in_ok-text.text ++ string_bytes c.in_ok-rest.rest = search rules in
    record { is = ended ∙ same_both first second }
