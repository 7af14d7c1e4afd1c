use Rattle.apd_driver.proofs.Broken.{on_err}
use Rattle.std.proofs.Common.{refl, sym, ◌∙◌}
use Rattle.apd_driver.proofs.Batches.{breaks_flushed, breaks_more, shows_flushed, shows_more, shows_none}
use Rattle.apd_driver.proofs.Kept.{run_flushed, run_more, run_none}
use Rattle.apd_driver.proofs.input.Input.do_all.Goals as goal

pub intervals-init : goal.intervals-init
intervals-init g c =
    record { home = c.requires.home; workers = refl; shown = rw c.nothing-found.ensures.memory (rw c.nothing-found.ensures.refused (shows_none _ _ _)); kept = run_none _ _ _ }

pub intervals-preserved : goal.intervals-preserved
intervals-preserved g c =
    let goes_on = sym c.is_over.ensures.is ∙ c.if-is_over.false in
    let flushed = shows_flushed _ _ _ _ _ _ _ _ c.intervals.invariant.shown c.advance.ensures.keeps in
    record {
      home = c.in_ok-passed.ensures.home;
      workers = c.in_ok-passed.ensures.workers ∙ c.intervals.invariant.workers;
      shown = rw c.and-found.ensures.memory (rw c.and-found.ensures.refused (shows_more _ _ _ _ _ _ _ _ _ _ _ flushed goes_on c.in_ok-passed.ensures.shows));
      kept = run_more _ _ _ _ _ _ _ (run_flushed _ _ _ _ _ _ _ c.intervals.invariant.kept c.advance.ensures.keeps c.advance.ensures.kept) c.in_ok-passed.ensures.keeps;
    }

pub returns-then-not-branch-clause-shows : goal.returns-then-not-branch-clause-shows
returns-then-not-branch-clause-shows g c = shows_flushed _ _ _ _ _ _ _ _ c.intervals.invariant.shown c.advance.ensures.keeps

pub returns-in_err-advance-clause-breaks : goal.returns-in_err-advance-clause-breaks
returns-in_err-advance-clause-breaks g c =
    on_err _ _ (breaks_flushed _ _ _ _ _ _ _ _ c.intervals.invariant.shown c.advance.ensures.keeps)

pub returns-in_err-passed-clause-breaks : goal.returns-in_err-passed-clause-breaks
returns-in_err-passed-clause-breaks g c =
    on_err _ _ (breaks_more _ _ _ _ _ _ _ _ (shows_flushed _ _ _ _ _ _ _ _ c.intervals.invariant.shown c.advance.ensures.keeps) (sym c.is_over.ensures.is ∙ c.if-is_over.false) c.in_err-passed.ensures.breaks)

pub returns-then-not-branch-clause-keeps : goal.returns-then-not-branch-clause-keeps
returns-then-not-branch-clause-keeps g c = run_flushed _ _ _ _ _ _ _ c.intervals.invariant.kept c.advance.ensures.keeps c.advance.ensures.kept
