use Rattle.std.proofs.Common.{◌≡◌, ◌+◌, [], None, arith, rules, refl}
use Rattle.std.proofs.lemmas.List.Elements.{All-nil}
use Rattle.apd_script.specs.Batches.{NoLine, questions_of, own_questions}
use Rattle.apd_script.proofs.Batching.{none_still, takes_more, waits_last, nothing_follows}
use Rattle.apd_script.proofs.Chunks.{continues}
use Rattle.apd_script.proofs.batch.read_batch.Goals as goal
use Rattle.apd_script.proofs.batch.read_batch.Goals.{in-Asks, in-GoesOn-2-2, in-GoesOn-2}

pub lines-init : goal.lines-init
lines-init c = record { takes = rw (c.new-commands.ensures.items, c.new-malformed.ensures.items) NoLine; few = omega arith; none = none_still [] _ c.new-commands.ensures.items (All-nil _) }

pub lines-preserved : goal.lines-preserved
lines-preserved c = record {
  takes = takes_more _ _ _ _ _ _ _ c.in_ok-added.added None _ _ _ _ c.lines.invariant.takes c.in-Some.ensures.cut.0 c.in-Some.ensures.goes_on c.in_ok-added.ensures.adds (rw c.in-GoesOn.is refl);
  few = omega (arith, c.if-lines-lt-MOST_LINES.true);
  none = (rw c.in-GoesOn.is at c.in_ok-added.ensures.leaves) c.lines.invariant.none;
}

takes_one_more : goal.returns-in-Some-clause-takes
takes_one_more c =
    let asks : questions_of c.match-added.question ≡ own_questions (c.args.first + c.lines.lines) c.in_ok-added.added = elim c.match-added.branch [
      | in-Asks w ↦ search rules
      | in-GoesOn-2-2 w ↦ search rules
      | in-GoesOn-2 w ↦ search rules
    ] in
    takes_more _ _ _ _ _ _ _ c.in_ok-added.added c.match-added.question _ _ _ _ c.lines.invariant.takes c.in-Some.ensures.cut.0 c.in-Some.ensures.goes_on c.in_ok-added.ensures.adds asks

pub returns-in-Some-clause-takes : goal.returns-in-Some-clause-takes
returns-in-Some-clause-takes c = takes_one_more c

pub returns-in-Some-clause-continues : goal.returns-in-Some-clause-continues
returns-in-Some-clause-continues c = continues _ _ _ _ _ _ _ _ (takes_one_more c)

pub returns-clause-continues : goal.returns-clause-continues
returns-clause-continues c = continues _ _ _ _ _ _ _ _ c.lines.invariant.takes

pub returns-in-Some-clause-waits : goal.returns-in-Some-clause-waits
returns-in-Some-clause-waits c = waits_last c.in_ok-added.added _ _ c.in_ok-added.ensures.leaves c.lines.invariant.none

pub returns-clause-waits : goal.returns-clause-waits
returns-clause-waits c = nothing_follows _ c.lines.invariant.none
