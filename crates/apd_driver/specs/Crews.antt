-- What an operator knows of its crew.
use Rattle.std.specs.Prelude.{◌≡◌, ℕ, List, ◌++◌}
use Rattle.ap_books.specs.Counts.{Counts, plus}
use Rattle.apd_driver.specs.declared.reports.report.Report.{Report}
use Rattle.apd_driver.specs.Following.{Looks, TakesAll}
use Rattle.apd_driver.specs.Semantics.{Semantics}
use Rattle.apd_driver.specs.Tallies.{tallied}

-- how many workers have rights, what those that came back have counted, and what the operator has done
pub record Crew (s : Semantics) : Type 0 where
  pub workers : ℕ
  pub counted : Counts
  pub work : s.Work

-- a worker that has counted this came back
abbrev pub gains : {s : Semantics} → Crew s → Counts → Crew s
gains crew counted = record { workers = crew.workers; counted = plus crew.counted counted; work = crew.work }

-- the operator has done this
abbrev pub with_work : {s : Semantics} → Crew s → s.Work → Crew s
with_work crew work = record { workers = crew.workers; counted = crew.counted; work = work }

-- nothing changed but what the operator has done
abbrev pub Works : {s : Semantics} → Crew s → Crew s → Type 0
Works crew crew2 = crew2 ≡ with_work crew crew2.work

-- nothing changed but that the operator read or summed up words, or looked at what was decided
pub record LooksOn {s : Semantics} (crew crew2 : Crew s) : Type 0 where
  pub works : Works crew crew2
  pub looks : Looks s crew.work crew2.work

-- reports were appended to the list; they were taken over from workers, and are what was counted
pub record Collects {s : Semantics} (crew crew2 : Crew s) (list list2 : List Report) : Type 0 where
  pub reports : List Report
  pub listed : list2 ≡ list ++ reports
  pub taken : TakesAll s crew.work crew2.work reports
  pub counted : crew2 ≡ with_work (gains crew (tallied reports)) crew2.work
