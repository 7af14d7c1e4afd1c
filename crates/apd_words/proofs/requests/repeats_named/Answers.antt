use Rattle.std.proofs.Common.{Some, ◌∙◌, ap, arith}
use Rattle.apd_words.proofs.States.{names, names_none}
use Rattle.apd_words.specs.CommandLine.{most_repeats}
use Rattle.apd_words.proofs.requests.repeats_named.Goals as goal

pub returns-in-Ok-clause-is : goal.returns-in-Ok-clause-is
returns-in-Ok-clause-is c =
    let h = c.in-Ok.ensures.value.0 in
    ap Some h.1 ∙ names most_repeats c.args.text.now (h.0.0, omega (arith, h.0.1), omega (arith, h.1, c.if-times-ge1.true), omega (arith, h.1, c.if-times-le-MOST_REPEATS.true))

pub returns-in_default-3-clause-is : goal.returns-in_default-3-clause-is
returns-in_default-3-clause-is c = names_none most_repeats c.args.text.now (λ k. c.in_default.ensures.value.0 (k.0, omega (arith, k.3)))
