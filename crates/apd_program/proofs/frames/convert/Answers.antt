use Rattle.std.proofs.Common.{rules}
use Rattle.std.specs.Result.{IfErr}
use Rattle.apd_program.specs.Faults.{IsMemoryOr}
use Rattle.apd_program.specs.Scripts.{IsUnscripted}
use Rattle.apd_program.proofs.Scripted.{chosen_script}
use Rattle.apd_program.proofs.frames.convert.Goals as goal

pub returns-in-None-clause-script : goal.returns-in-None-clause-script
returns-in-None-clause-script c =
    chosen_script c.args.plan c.args.file.items c.as_slice.result.now _ _ _ _ c.as_slice.ensures.value c.in_ok-span.ensures.planned c.in-None.is c.new-text.ensures.text

pub returns-in-Some-clause-script : goal.returns-in-Some-clause-script
returns-in-Some-clause-script c =
    chosen_script c.args.plan c.args.file.items c.as_slice.result.now _ _ _ _ c.as_slice.ensures.value c.in_ok-span.ensures.planned c.in-Some.is c.new-text.ensures.text
