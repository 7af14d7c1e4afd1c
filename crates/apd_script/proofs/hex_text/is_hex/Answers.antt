use Rattle.std.proofs.Common.{◌≡◌, ◌%◌, length, arith, ◌∙◌}
use Rattle.std.proofs.lemmas.Bool.Decides.{nat_tests}
use Rattle.apd_script.proofs.Digits.{is_ok-even}
use Rattle.apd_script.proofs.hex_text.is_hex.Goals as goal

pub returns-then-even : goal.returns-then-even
returns-then-even c =
    let even : length c.args.digits.now % 2 ≡ 0 = grind (arith, nat_tests) in
    record { is = c.are_digits.ensures.is ∙ is_ok-even c.args.digits.now even }
