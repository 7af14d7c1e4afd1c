use Rattle.std.proofs.Common.{arith, ◌∙◌, ap}
use Rattle.std.proofs.lemmas.Grind.{common_steps}
use Rattle.std.proofs.lemmas.Str.Pattern.{split_parts}
use Rattle.bpf_text.specs.Texts.{lines_of}
use Rattle.bpf_text.proofs.Cuts.{lines_of-one, lines_of-feed}
use Rattle.bpf_text.proofs.assembler.first_line.Goals as goal

pub returns-in-Some : goal.returns-in-Some
returns-in-Some c =
    let parts = rw c.in-Some.is at (split_parts 10 c.args.text.now c.split_once.result c.split_once.ensures.cases (omega arith)) in
    record { cut = (ap lines_of parts.0 ∙ lines_of-feed c.in-Some.line.now c.in-Some.rest.now parts.1, grind (arith, common_steps, parts.0)) }

pub returns-in-None : goal.returns-in-None
returns-in-None c =
    let parts = rw c.in-None.is at (split_parts 10 c.args.text.now c.split_once.result c.split_once.ensures.cases (omega arith)) in
    record { cut = lines_of-one c.args.text.now parts }
