-- What an access point says of its operator's work.
use Rattle.std.specs.Prelude.{ℕ, List, Option}
use Rattle.ap_books.specs.Counts.{Counts}
use Rattle.ap_model.specs.declared.event.Event.{Event}
use Rattle.apd_script.specs.Asked.{Asked}
use Rattle.apd_driver.specs.declared.reports.report.Report.{Report}
use Rattle.apd_driver.specs.declared.reports.report.Told.{Told}

-- What is known of the work so far; whether what a line asks for was done between one work and another, with what is told
-- of it, if anything; whether, between them, the event of the line with this number was put at a shard; whether these
-- reports were taken over from a worker; whether the operator only looked at what had been decided; whether nothing is left
-- for a worker to report, or to be told; and whether what was taken over is all that was decided, if this was counted.
pub record Semantics : Type 1 where
  pub Work : Type 0
  pub Does : Work → Work → Asked → Option Told → Type 0
  pub Puts : Work → Work → ℕ → Event → ℕ → Type 0
  pub Takes : Work → Work → List Report → Type 0
  pub Sees : Work → Work → Type 0
  pub NoneLeft : Work → Type 0
  pub AllTold : Counts → Work → Type 0
