use Rattle.std.proofs.Common.{rules, tests, arith}
use Rattle.std.proofs.lemmas.Iterator.{YieldsList-from_slice}
use Rattle.std.proofs.lemmas.Iterator.Search.{position_from_yields_List}
use Rattle.std.proofs.lemmas.Bool.Decides.{nat_tests}
use Rattle.bpf_line.specs.Words.{ends_word}
use Rattle.bpf_line.proofs.Cuts.{position_fits}
use Rattle.bpf_line.proofs.words.word_len.Goals as goal

pub returns : goal.returns
returns c =
    let found = position_from_yields_List ends_word _ _ c.position-end.result c.position-end.ensures.ran (YieldsList-from_slice c.args.text.now cc) (λ x b q k. search (rules, tests, nat_tests)) in
    let fits = position_fits c.args.text.now in
    grind (arith, nat_tests, found, fits)
