use Rattle.std.proofs.Common.{◌+◌, [], rules, arith, IfErr}
use Rattle.std.proofs.lemmas.Result.{IfErr-weaker}
use Rattle.apd_script.specs.Script.{lines_of}
use Rattle.apd_cases.specs.Said.{lines_said}
use Rattle.apd_cases.proofs.LineByLine.{IsReadTo-more, AreCases-read, Spoils-read, first_of}
use Rattle.apd_cases.proofs.cases.read_cases.Goals as goal

pub returns-in_err-add_line-clause-malformed : goal.returns-in_err-add_line-clause-malformed
returns-in_err-add_line-clause-malformed c =
    let first = first_of c.loop-lines.rest.now c.first_line.result.0.now c.first_line.result.1 c.first_line.ensures.cut in
    let read = rw first.1 at c.loop-lines.invariant.read in
    let bad : IfErr c.from_residual.result _ = search rules in
    IfErr-weaker c.from_residual.result _ _ (Spoils-read c.args.text.now c.loop-lines.before c.first_line.result.0.now first.0 _ read) bad

pub returns-in-None-clause-cases : goal.returns-in-None-clause-cases
returns-in-None-clause-cases c =
    let cut = rw c.in-None.is at c.first_line.ensures.cut in
    let read = rw cut at c.loop-lines.invariant.read in
    let more = IsReadTo-more (lines_of c.args.text.now) c.loop-lines.before c.first_line.result.0.now [] _ (lines_said c.add_line.new.lines.items) read c.in_ok-add_line.ensures.well_formed c.in_ok-add_line.ensures.added in
    AreCases-read c.args.text.now (c.loop-lines.before + 1) _ more

pub loop-lines-preserved : goal.loop-lines-preserved
loop-lines-preserved c =
    let cut = rw c.in-Some.is at c.first_line.ensures.cut in
    let read = rw cut.0 at c.loop-lines.invariant.read in
    let less = cut.1 in
    let before = c.loop-lines.invariant.shorter in
    record {
      read = IsReadTo-more (lines_of c.args.text.now) c.loop-lines.before c.first_line.result.0.now (lines_of c.in-Some.next.now) _ _ read c.in_ok-add_line.ensures.well_formed c.in_ok-add_line.ensures.added;
      shorter = omega (arith, less, before);
    }
