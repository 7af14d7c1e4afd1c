use Rattle.apd_driver.proofs.Broken.{on_err}
use Rattle.std.proofs.Common.{◌≡◌, ◌≤◌, ◌++◌, [], take, ap, refl, sym, ◌∙◌, arith}
use Rattle.apd_script.specs.Asked.{commands_of}
use Rattle.apd_driver.proofs.Ahead.{ahead_breaks, ahead_keeps, ahead_more, ahead_none, ahead_shows}
use Rattle.apd_driver.proofs.Segments.{begun_at, done_over, done_taken, taken_within, within_all}
use Rattle.apd_driver.proofs.interval.intervals.Goals as goal

pub intervals-init : goal.intervals-init
intervals-init g c =
    record { home = c.requires.home; workers = refl; within = omega arith; ahead = rw (c.new.ensures.items, c.nothing-found.ensures.memory, c.nothing-found.ensures.refused) (ahead_none _ _ _ _) }

pub intervals-preserved : goal.intervals-preserved
intervals-preserved g c =
    let goes_on = sym c.is_over.ensures.is ∙ c.if-is_over.false in
    let le : c.intervals.line ≤ c.in_ok-passed.passed.next = omega (arith, c.in_ok-passed.ensures.on) in
    let whole : commands_of (take c.in_ok-passed.passed.next c.args.commands.now) ≡ commands_of (take c.intervals.line c.args.commands.now) ++ commands_of c.in_ok-passed.passed.answered.commands.now =
    taken_within c.args.commands.now _ c.min-end.result _ _ refl le c.in_ok-passed.ensures.within
    ∙ ap (λ l. commands_of (take c.intervals.line c.args.commands.now) ++ commands_of l) (sym c.in_ok-passed.ensures.commands) in
    record {
      home = c.in_ok-passed.ensures.home;
      workers = c.in_ok-passed.ensures.workers ∙ c.intervals.invariant.workers;
      within = within_all c.args.commands.now c.min-end.result c.in_ok-passed.passed.next c.in_ok-passed.ensures.within;
      ahead = rw c.and-found.ensures.memory
          (rw c.and-found.ensures.refused
          (ahead_more _ _ _ _ _ _ _ _ _ _ _ _ _ _ _ _ _ _ _ _ _ _ c.intervals.invariant.ahead c.in_ok-passed.ensures.prints c.in_ok-passed.ensures.records goes_on whole c.in_ok-passed.ensures.serves));
    }

pub returns-in_err-passed-clause-breaks : goal.returns-in_err-passed-clause-breaks
returns-in_err-passed-clause-breaks g c =
    on_err _ _ (ahead_breaks _ _ _ _ _ _ _ _ _ _ _ _ _ _ _ _ c.intervals.invariant.ahead c.in_err-passed.ensures.breaks (begun_at c.args.commands.now c.intervals.line))

pub returns-in_err-print_answered-clause-breaks : goal.returns-in_err-print_answered-clause-breaks
returns-in_err-print_answered-clause-breaks g c =
    on_err _ _ (ahead_breaks _ _ _ _ _ _ _ _ _ _ _ _ _ _ _ _ c.intervals.invariant.ahead c.in_err-print_answered.ensures.breaks (begun_at c.args.commands.now c.intervals.line))

pub returns-in_err-print_answered-2-clause-breaks : goal.returns-in_err-print_answered-2-clause-breaks
returns-in_err-print_answered-2-clause-breaks g c =
    on_err _ _ (ahead_breaks _ _ _ _ _ _ _ _ _ _ _ _ _ _ _ _ c.intervals.invariant.ahead c.in_err-print_answered-2.ensures.breaks (begun_at c.args.commands.now c.intervals.line))

pub returns-then-is_over-clause-shows : goal.returns-then-is_over-clause-shows
returns-then-is_over-clause-shows g c =
    record { lines = _; malformed = []; shows = ahead_shows _ _ _ _ _ _ _ _ _ _ _ _ _ _ _ c.intervals.invariant.ahead c.in_ok-print_answered.ensures.prints; done = done_over c.args.commands.now c.intervals.line _ (sym c.is_over.ensures.is ∙ c.if-is_over.true) }

pub returns-clause-shows : goal.returns-clause-shows
returns-clause-shows g c =
    record { lines = _; malformed = []; shows = ahead_shows _ _ _ _ _ _ _ _ _ _ _ _ _ _ _ c.intervals.invariant.ahead c.in_ok-print_answered-2.ensures.prints; done = done_taken c.args.commands.now c.intervals.line _ c.intervals-test.false }

pub returns-then-is_over-clause-keeps : goal.returns-then-is_over-clause-keeps
returns-then-is_over-clause-keeps g c =
    record { lines = _; begun = begun_at c.args.commands.now c.intervals.line; keeps = ahead_keeps _ _ _ _ _ _ _ _ _ _ _ _ _ _ _ _ c.intervals.invariant.ahead c.in_ok-print_answered.ensures.prints c.in_ok-print_answered.ensures.records }

pub returns-clause-keeps : goal.returns-clause-keeps
returns-clause-keeps g c =
    record { lines = _; begun = begun_at c.args.commands.now c.intervals.line; keeps = ahead_keeps _ _ _ _ _ _ _ _ _ _ _ _ _ _ _ _ c.intervals.invariant.ahead c.in_ok-print_answered-2.ensures.prints c.in_ok-print_answered-2.ensures.records }
