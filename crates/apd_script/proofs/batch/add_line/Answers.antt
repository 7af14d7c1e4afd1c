use Rattle.std.proofs.Common.{◌≡◌, true, refl, ap, rules}
use Rattle.apd_script.specs.Batches.{is_wait}
use Rattle.apd_script.specs.declared.batch.MalformedLine.{MalformedLine}
use Rattle.apd_script.specs.declared.command.Numbered.{Numbered}
use Rattle.apd_script.proofs.Batching.{adds_command, adds_nothing, adds_question, adds_malformed, one_waits}
use Rattle.apd_script.proofs.batch.add_line.Goals as goal
use Rattle.apd_script.proofs.batch.add_line.Goals.{in-Wait, in_default}

pub returns-then-waits-clause-adds : goal.returns-then-waits-clause-adds
returns-then-waits-clause-adds c =
    let n : Numbered = record { line = c.args.number; command = c.in-Ok-Command.command } in
    let says = rw c.in-Ok-Command.field-0-is at c.in-Ok-Command.ensures.says in
    adds_command _ _ _ _ _ _ n says.0 says.1 (rw c.in_ok-reserve-in-Ok-Command.ensures.items at c.push_reserved.ensures.items) refl

pub returns-then-waits-clause-leaves : goal.returns-then-waits-clause-leaves
returns-then-waits-clause-leaves c =
    let n : Numbered = record { line = c.args.number; command = c.in-Ok-Command.command } in
    let waits : is_wait c.in-Ok-Command.command ≡ true = elim c.match-matches.branch [
      | in-Wait w ↦ ap is_wait w.in-Wait.is
      | in_default w ↦ search rules
    ] in
    one_waits _ _ n (rw c.in_ok-reserve-in-Ok-Command.ensures.items at c.push_reserved.ensures.items) waits

pub returns-in-Ok-Command-clause-adds : goal.returns-in-Ok-Command-clause-adds
returns-in-Ok-Command-clause-adds c =
    let n : Numbered = record { line = c.args.number; command = c.in-Ok-Command.command } in
    let says = rw c.in-Ok-Command.field-0-is at c.in-Ok-Command.ensures.says in
    adds_command _ _ _ _ _ _ n says.0 says.1 (rw c.in_ok-reserve-in-Ok-Command.ensures.items at c.push_reserved.ensures.items) refl

pub returns-in-Ok-Nothing-clause-adds : goal.returns-in-Ok-Nothing-clause-adds
returns-in-Ok-Nothing-clause-adds c =
    let says = rw c.in-Ok-Nothing.field-0-is at c.in-Ok-Nothing.ensures.says in
    adds_nothing _ _ _ _ _ _ _ says.0 says.1 refl refl

pub returns-in-Ok-Question-clause-adds : goal.returns-in-Ok-Question-clause-adds
returns-in-Ok-Question-clause-adds c =
    let says = rw c.in-Ok-Question.field-0-is at c.in-Ok-Question.ensures.says in
    adds_question _ _ _ _ _ _ _ _ says refl refl

pub returns-in-Err-clause-adds : goal.returns-in-Err-clause-adds
returns-in-Err-clause-adds c =
    let m : MalformedLine = record { line = c.args.number; fault = c.in-Err.fault } in
    adds_malformed _ _ _ _ _ _ m c.in-Err.ensures.malformed refl (rw c.in_ok-reserve-in-Err.ensures.items at c.push_reserved-in-Err.ensures.items)
