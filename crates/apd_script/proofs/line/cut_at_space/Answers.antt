use Rattle.std.proofs.Common.{◌==◌, arith, ◌∙◌, ap}
use Rattle.std.specs.List.{slice_split}
use Rattle.std.proofs.lemmas.Grind.{common_steps}
use Rattle.std.proofs.lemmas.Str.Pattern.{split_parts}
use Rattle.apd_script.proofs.Cuts.{slice_split-without, slice_split-before}
use Rattle.apd_script.proofs.Parts.{words-cut, words-whole}
use Rattle.apd_script.proofs.line.cut_at_space.Goals as goal

pub returns-in-Some : goal.returns-in-Some
returns-in-Some c =
    let parts = rw c.in-Some.is at (split_parts 32 c.args.text.now c.split_once.result c.split_once.ensures.cases (omega arith)) in
    let cut = ap (slice_split (λ b. b == 32)) parts.0 ∙ slice_split-before 32 c.in-Some.word.now c.in-Some.rest.now parts.1 in
    record {
      parts = words-cut c.args.text.now c.in-Some.word.now c.in-Some.rest.now cut;
      shorter = λ some. grind (arith, common_steps, parts.0);
    }

pub returns-in-None : goal.returns-in-None
returns-in-None c =
    let parts = rw c.in-None.is at (split_parts 32 c.args.text.now c.split_once.result c.split_once.ensures.cases (omega arith)) in
    record {
      parts = words-whole c.args.text.now (slice_split-without 32 c.args.text.now parts);
      shorter = λ some. omega (arith, some);
    }
