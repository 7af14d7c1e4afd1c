use Rattle.std.proofs.Common.{◌≡◌, length, vec_len, arith}
use Rattle.apd_driver.proofs.Broken.{breaks_at_once}
use Rattle.apd_driver.proofs.script.run.Goals as goal

pub returns-in_default-clause-breaks : goal.returns-in_default-clause-breaks
returns-in_default-clause-breaks g c = breaks_at_once _ _ _ _

pub returns-clause-home : goal.returns-clause-home
returns-clause-home g c =
    let many : length c.as_slice.result.now ≡ vec_len c.args.staff.workers = omega (arith, c.as_slice.ensures.len, c.in-Ok.ensures, c.len.ensures) in
    rw many at c.run_threads.ensures.home

pub returns-clause-shows : goal.returns-clause-shows
returns-clause-shows g c = rw c.how.ensures.is at c.run_threads.ensures.shows

pub returns-clause-keeps : goal.returns-clause-keeps
returns-clause-keeps g c = rw c.how.ensures.is at c.run_threads.ensures.keeps
