use Rattle.std.proofs.Common.{◌≡◌, ◌∙◌, ◌++◌, ◌<◌, ap, arith, length, refl, sym}
use Rattle.std.specs.Prelude.{codes, Some}
use Rattle.std.proofs.lemmas.Bool.Decides.{Decides-eqb, nat_tests}
use Rattle.std.proofs.lemmas.Slice.Eq.{strip_prefix_is}
use Rattle.apd_script.proofs.Plain.{plain_reads, plain_utf8}
use Rattle.apd_script.proofs.line.plain_frame.Goals as goal

pub returns : goal.returns
returns c =
    let whole : c.args.line.now ≡ codes "frame " ++ c.in_ok-digits.digits.now = strip_prefix_is Decides-eqb c.args.line.now (codes "frame ") (Some c.in_ok-digits.digits) c.in_ok-digits.ensures.cases in
    let some : 0 < length c.in_ok-digits.digits.now = grind (arith, nat_tests) in
    let ok = c.in_ok-spelt.ensures.valid.0 refl in
    record {
      reads = λ maps. rw whole (plain_reads maps c.in_ok-digits.digits.now c.in_ok-spelt.spelt some c.in_ok-spelt.ensures.same ok);
      utf8 = λ _. rw whole (plain_utf8 c.in_ok-digits.digits.now ok);
    }
