-- What a run prints, and what its capture has of it.
use Rattle.std.specs.Prelude.{◌≡◌, ℕ, List, [], ◌∷◌, ◌++◌, Option, Some, Bool}
use Rattle.std.specs.List.{flat_map}
use Rattle.std.specs.Io.KnownBytes.{Appends, Keeps}
use Rattle.ap_books.specs.Counts.{Counts}
use Rattle.ap_books.specs.declared.totals.Totals.{Totals}
use Rattle.capture.specs.Writing.{Written, heading}
use Rattle.apd_script.specs.Asked.{Asked, commands_of}
use Rattle.apd_script.specs.declared.command.Numbered.{Numbered}
use Rattle.apd_driver.specs.Asking.{TellsAnswer}
use Rattle.apd_driver.specs.Capturing.{Recorded, Records, interval_packets, time_after_all}
use Rattle.apd_driver.specs.Crews.{Crew}
use Rattle.apd_driver.specs.Done.{AreBegun}
use Rattle.apd_driver.specs.Lines.{reports_text, totals_text}
use Rattle.apd_driver.specs.Semantics.{Semantics}
use Rattle.apd_driver.specs.Shows.{Prints, ShowsMalformed, ShowsOne}
use Rattle.apd_driver.specs.declared.manner.Manner.{Manner}
use Rattle.apd_driver.specs.declared.reports.report.Form.{Form}
use Rattle.apd_driver.specs.declared.reports.report.Report.{Report}

-- the reports are printed, and those that are printed are recorded with these commands
pub record PrintsAndRecords (manner : Manner) (commands : List Numbered) (old new : Option (List ℕ)) (before after : Recorded) (handed : List Report) (memory refused : Bool) : Type 0 where
  pub prints : Prints manner old new handed memory refused
  pub records : Records before after commands prints.printed

-- the same of reports on malformed lines, without commands
pub record AnswersAndRecords (manner : Manner) (malformed : List ℕ) (old new : Option (List ℕ)) (before after : Recorded) (memory refused : Bool) : Type 0 where
  pub shows : ShowsMalformed manner malformed old new memory refused
  pub records : Records before after [] shows.prints.printed

-- the same of an interval of these commands
pub record ShowsAndRecords {s : Semantics} (manner : Manner) (commands : List Numbered) (malformed : List ℕ) (old new : Option (List ℕ)) (before after : Recorded) (crew crew2 : Crew s) (memory refused : Bool) : Type 0 where
  pub shows : ShowsOne manner (commands_of commands) malformed old new crew crew2 memory refused
  pub records : Records before after commands shows.prints.printed

-- an interval: its commands, and the reports that are printed of them
pub record Interval : Type 0 where
  pub commands : List Numbered
  pub printed : List Report

-- the packets of intervals, one after another
abbrev pub run_packets : ℕ → List Interval → List Written
run_packets time [] = []
run_packets time (i ∷ intervals) =
    interval_packets time i.commands i.printed ++ run_packets (time_after_all time i.commands) intervals

-- intervals are recorded, one after another
abbrev pub RecordsAll : Recorded → Recorded → List Interval → Type 0
RecordsAll old new [] = new ≡ old
RecordsAll old new (i ∷ intervals) =
    (mid : Recorded) × Records old mid i.commands i.printed × RecordsAll mid new intervals

-- What a run prints from its start, one after another: the reports of intervals, answers behind them; what was printed may
-- be flushed.
pub data PrintsAll (form : Form) (old : Option (List ℕ)) : List Interval → Option (List ℕ) → Type 0 where
  NoReports : PrintsAll form old [] old
  ThenReports : (intervals : List Interval) (i : Interval) (mid new : Option (List ℕ)) → PrintsAll form old intervals mid → Appends mid new (reports_text form i.printed)
      → PrintsAll form old (intervals ++ i ∷ []) new
  ThenAnswer : (intervals : List Interval) (mid new : Option (List ℕ)) (counted : Counts) → PrintsAll form old intervals mid → TellsAnswer counted mid new → PrintsAll form old intervals new
  ThenFlushed : (intervals : List Interval) (mid new : Option (List ℕ)) → PrintsAll form old intervals mid → Keeps mid new → PrintsAll form old intervals new

-- intervals of these lines are printed and recorded, one after another
pub record KeepsLines (form : Form) (lines : List (ℕ × Asked)) (old new : Option (List ℕ)) (before after : Recorded) : Type 0 where
  pub intervals : List Interval
  pub asked : lines ≡ commands_of (flat_map (λ (i : Interval). i.commands) intervals)
  pub prints : PrintsAll form old intervals new
  pub records : RecordsAll before after intervals

-- the same of the lines of a script, or a prefix of them
pub record KeepsRun (form : Form) (script : Option (List (ℕ × Asked))) (old new : Option (List ℕ)) (before after : Recorded) : Type 0 where
  pub lines : List (ℕ × Asked)
  pub begun : AreBegun script lines []
  pub keeps : KeepsLines form lines old new before after

-- the same of a whole run, and behind it the line of its totals
pub record KeepsWhole (form : Form) (script : Option (List (ℕ × Asked))) (old new : Option (List ℕ)) (before after : Recorded) : Type 0 where
  pub mid : Option (List ℕ)
  pub totals : Totals
  pub keeps : KeepsRun form script old mid before after
  pub last : Appends mid new (totals_text totals)

-- a capture has these bytes, after intervals that were recorded in it since it began
abbrev pub IsOfRun : List ℕ → List Interval → Type 0
IsOfRun bytes intervals = (time : ℕ) × RecordsAll (Some (Some heading, 0)) (Some (Some bytes, time)) intervals
