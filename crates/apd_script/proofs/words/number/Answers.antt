use Rattle.std.proofs.Common.{◌≡◌, true, rules, tests, ◌∙◌}
use Rattle.apd_script.specs.Words.{is_decimal}
use Rattle.apd_script.proofs.Numbers.{result_ok-parsed}
use Rattle.apd_script.proofs.words.number.Goals as goal

pub returns : goal.returns
returns c =
    let digits : is_decimal c.args.text.now ≡ true = search (rules, tests) in
    record { is = c.ok.ensures.value ∙ result_ok-parsed c.args.text.now c.parse.result digits c.parse.ensures.value.0 }
