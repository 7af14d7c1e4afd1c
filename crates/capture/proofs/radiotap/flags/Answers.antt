use Rattle.std.proofs.Common.{◌≡◌, ◌≢◌, ◌/◌, ◌%◌, rules, arith, sym, ◌∙◌, ap, Some, drop, slice_get, slice_index}
use Rattle.std.proofs.lemmas.Bool.Decides.{nat_tests}
use Rattle.capture.specs.Radiotap.{words_len}
use Rattle.capture.proofs.Present.{flags_of-words, item_copied}
use Rattle.capture.proofs.radiotap.flags.Goals as goal

pub returns : goal.returns
returns c =
    let is : words_len (drop 4 c.args.header.now) ≡ Some c.in_ok-words.words = search rules in
    let there : slice_index c.args.header.now 4 / 2 % 2 ≢ 0 = grind (arith, nat_tests) in
    let got : c.copied.result ≡ slice_get c.args.header.now c.flags_place.result = c.copied.ensures ∙ item_copied c.args.header.now c.flags_place.result c.get.result c.get.ensures.lookup in
    record { is = got ∙ ap (slice_get c.args.header.now) c.flags_place.ensures.is ∙ sym (flags_of-words c.args.header.now c.in_ok-words.words is there) }
