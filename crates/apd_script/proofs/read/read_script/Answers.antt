use Rattle.std.proofs.Common.{◌≡◌, ◌+◌, [], rules, arith, ◌∙◌, refl, IfErr}
use Rattle.apd_script.specs.Asked.{commands_of}
use Rattle.std.proofs.lemmas.Result.{IfErr-weaker}
use Rattle.apd_script.specs.declared.fault.ScriptFault.TheVariants.{Line}
use Rattle.apd_script.specs.Script.{lines_of}
use Rattle.apd_script.proofs.Reading.{first_of, IsReadTo-more, IsScript-read, IsMalformedAfter-read}
use Rattle.apd_script.proofs.read.read_script.Goals as goal

pub returns-in_err-add_line-clause-malformed : goal.returns-in_err-add_line-clause-malformed
returns-in_err-add_line-clause-malformed c =
    let fault : IfErr c.from_residual-in_err-add_line.result (λ f. f ≡ Line (c.loop-commands.before + 1)) = search rules in
    let first = first_of c.loop-commands.rest.now c.first_line.result.0.now c.first_line.result.1 c.first_line.ensures.cut in
    let read = rw first.1 at c.loop-commands.invariant.read in
    let place = IsMalformedAfter-read c.args.shapes.now c.args.text.now c.loop-commands.before c.first_line.result.0.now first.0 _ read c.in_err-add_line.ensures.malformed in
    IfErr-weaker c.from_residual-in_err-add_line.result _ _ (λ f h. rw h (c.loop-commands.before, refl, place)) fault

pub returns-in-None-clause-script : goal.returns-in-None-clause-script
returns-in-None-clause-script c =
    let cut = rw c.in-None.is at c.first_line.ensures.cut in
    let read = rw cut at c.loop-commands.invariant.read in
    let more = IsReadTo-more c.args.shapes.now (lines_of c.args.text.now) c.loop-commands.before c.first_line.result.0.now [] _ (commands_of c.add_line.new.commands.items) read c.in_ok-add_line.ensures.well_formed c.in_ok-add_line.ensures.asked in
    IsScript-read c.args.shapes.now c.args.text.now (c.loop-commands.before + 1) _ more

pub loop-commands-preserved : goal.loop-commands-preserved
loop-commands-preserved c =
    let cut = rw c.in-Some.is at c.first_line.ensures.cut in
    let read = rw cut.0 at c.loop-commands.invariant.read in
    let few = c.add_line.ensures.few in
    let before = c.loop-commands.invariant.few in
    record {
      read = IsReadTo-more c.args.shapes.now (lines_of c.args.text.now) c.loop-commands.before c.first_line.result.0.now (lines_of c.in-Some.next.now) _ _ read c.in_ok-add_line.ensures.well_formed c.in_ok-add_line.ensures.asked;
      within = c.add_line.ensures.within c.loop-commands.invariant.within;
      few = omega (arith, few, before);
      room = c.add_line.ensures.room ∙ c.loop-commands.invariant.room;
      countable = c.loop-commands.invariant.countable;
    }
