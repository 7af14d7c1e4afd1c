-- What a run prints.
use Rattle.std.specs.Prelude.{◌≡◌, ◌⊎◌, ℕ, List, [], ◌++◌, map, Option, Bool, true, false, ◌||◌, ◌&&◌, if◌then◌else◌}
use Rattle.std.specs.List.{list_any}
use Rattle.std.specs.Io.KnownBytes.{Appends, Keeps}
use Rattle.ap_books.specs.Counts.{none}
use Rattle.ap_books.specs.Reading.{Reads}
use Rattle.ap_books.specs.declared.totals.Totals.{Totals}
use Rattle.apd_files.specs.Beginning.{AppendsBeginning}
use Rattle.apd_driver.specs.Lines.{reports_text, totals_text}
use Rattle.apd_driver.specs.Order.{IsOrdered}
use Rattle.apd_driver.specs.declared.reports.report.Report.{Report}
use Rattle.apd_driver.specs.declared.reports.report.Told.{Told}
use Rattle.apd_driver.specs.declared.reports.report.Told.TheVariants.{Memory, Fault, Refused, Certificate, Unreadable, Malformed}
use Rattle.apd_driver.specs.declared.reports.report.Form.{Form}
use Rattle.apd_script.specs.Asked.{Asked}
use Rattle.apd_driver.specs.Asking.{TellsAnswer, BreaksAnswer}
use Rattle.apd_driver.specs.Crews.{Crew, LooksOn, gains, with_work}
use Rattle.apd_driver.specs.Done.{AreBegun, AreDone}
use Rattle.apd_driver.specs.Following.{FollowsAll, TakesAll}
use Rattle.apd_driver.specs.Semantics.{Semantics}
use Rattle.apd_driver.specs.Tallies.{tallied}
use Rattle.apd_driver.specs.declared.manner.Manner.{Manner}

-- the report says `memory`
abbrev pub is_memory : Told → Bool
is_memory Memory = true
is_memory _ = false

-- one of the reports says so
abbrev pub any_memory : List Report → Bool
any_memory reports = list_any (λ r. is_memory r.told) reports

-- the report says that a program, or a file of one, was refused
abbrev pub is_refusal : Told → Bool
is_refusal (Fault _) = true
is_refusal (Refused fault slot) = true
is_refusal (Certificate _) = true
is_refusal (Unreadable why) = true
is_refusal _ = false

-- one of the reports says so
abbrev pub any_refusal : List Report → Bool
any_refusal reports = list_any (λ r. is_refusal r.told) reports

-- the report says that a line is malformed
abbrev pub is_malformed : Told → Bool
is_malformed (Malformed why) = true
is_malformed _ = false

-- one of the reports says so
abbrev pub any_malformed : List Report → Bool
any_malformed reports = list_any (λ r. is_malformed r.told) reports

-- one of the reports says that a line is at fault: it is malformed or, in a strict run, was refused
abbrev pub any_fault : Bool → List Report → Bool
any_fault strict reports = any_malformed reports || (strict && any_refusal reports)

-- a strict run ends after a line at fault
abbrev pub is_over : Bool → Bool → Bool
is_over strict refused = strict && refused

-- the reports are printed in order; the flags say whether a line says `memory`, and whether one is at fault
pub record Prints (manner : Manner) (old new : Option (List ℕ)) (handed : List Report) (memory refused : Bool) : Type 0 where
  pub printed : List Report
  pub ordered : IsOrdered handed printed
  pub text : Appends old new (reports_text manner.form printed)
  pub memory_is : memory ≡ any_memory printed
  pub refused_is : refused ≡ any_fault manner.strict printed

-- a report's line, and whether the report says that the line is malformed
abbrev pub malformed_by : Report → ℕ × Bool
malformed_by r = (r.line, is_malformed r.told)

-- that this line is malformed
abbrev pub malformed_at : ℕ → ℕ × Bool
malformed_at line = (line, true)

-- a report on each malformed line, in order
abbrev pub AnswerMalformed : List ℕ → List Report → Type 0
AnswerMalformed malformed reports = map malformed_by reports ≡ map malformed_at malformed

-- The reports of an interval: those of the operator, which follows the lines, those on malformed lines, and those on what
-- became of events, which it then takes over from the workers; none is left, unless there is no line. They are what was
-- counted.
pub record Gathered {s : Semantics} (lines : List (ℕ × Asked)) (malformed : List ℕ) (crew crew2 : Crew s) (handed : List Report) : Type 0 where
  pub work : s.Work
  pub told : List Report
  pub follows : FollowsAll s crew.work lines work told
  pub answers : List Report
  pub on_malformed : AnswerMalformed malformed answers
  pub others : List Report
  pub taken : TakesAll s work crew2.work others
  pub none_left : (lines ≡ []) ⊎ s.NoneLeft crew2.work
  pub all : handed ≡ told ++ (answers ++ others)
  pub counts : crew2 ≡ with_work (gains crew (tallied handed)) crew2.work

-- printing reports breaks off: before it begins, or within them
pub data PrintsPart (form : Form) (old new : Option (List ℕ)) (handed : List Report) : Type 0 where
  NotBegun : new ≡ old → PrintsPart form old new handed
  Partly : (printed : List Report) → IsOrdered handed printed → AppendsBeginning old new (reports_text form printed) → PrintsPart form old new handed

-- the reports answer malformed lines alone, and count nothing
pub record OnlyMalformed (malformed : List ℕ) (handed : List Report) : Type 0 where
  pub on_malformed : AnswerMalformed malformed handed
  pub nothing : tallied handed ≡ none

-- they are printed
pub record ShowsMalformed (manner : Manner) (malformed : List ℕ) (old new : Option (List ℕ)) (memory refused : Bool) : Type 0 where
  pub handed : List Report
  pub prints : Prints manner old new handed memory refused
  pub only : OnlyMalformed malformed handed

-- printing them breaks off
pub data BreaksMalformed (form : Form) (malformed : List ℕ) (old new : Option (List ℕ)) : Type 0 where
  BeforeThem : new ≡ old → BreaksMalformed form malformed old new
  WithinThem : (handed : List Report) → OnlyMalformed malformed handed → PrintsPart form old new handed → BreaksMalformed form malformed old new

-- an interval of these lines breaks off: before its reports are printed, or within them
pub data BreaksOff {s : Semantics} (form : Form) (lines : List (ℕ × Asked)) (malformed : List ℕ) (old new : Option (List ℕ)) (crew : Crew s) : Type 0 where
  Before : new ≡ old → BreaksOff form lines malformed old new crew
  Within : (crew2 : Crew s) (handed : List Report) → Gathered lines malformed crew crew2 handed → PrintsPart form old new handed
      → BreaksOff form lines malformed old new crew

-- an interval of the first of these lines breaks off
pub record BreaksFrom {s : Semantics} (form : Form) (all : List (ℕ × Asked)) (malformed : List ℕ) (old new : Option (List ℕ)) (crew : Crew s) : Type 0 where
  pub lines : List (ℕ × Asked)
  pub rest : List (ℕ × Asked)
  pub first : all ≡ lines ++ rest
  pub breaks : BreaksOff form lines malformed old new crew

-- one interval of these lines: the reports are printed, and are what was counted
pub record ShowsOne {s : Semantics} (manner : Manner) (lines : List (ℕ × Asked)) (malformed : List ℕ) (old new : Option (List ℕ)) (crew crew2 : Crew s) (memory refused : Bool) : Type 0 where
  pub handed : List Report
  pub prints : Prints manner old new handed memory refused
  pub gathered : Gathered lines malformed crew crew2 handed

-- one interval and then the answer to a question, if there is one, by what was counted until then
pub record ShowsBatch {s : Semantics} (manner : Manner) (old new : Option (List ℕ)) (crew crew2 : Crew s) (memory refused : Bool) : Type 0 where
  pub lines : List (ℕ × Asked)
  pub malformed : List ℕ
  pub mid : Option (List ℕ)
  pub before : Crew s
  pub shows : ShowsOne manner lines malformed old mid crew before memory refused
  pub tells : TellsAnswer before.counted mid new
  pub looks : LooksOn before crew2

-- it breaks off: in its interval, or in its answer
pub data BreaksBatch {s : Semantics} (manner : Manner) (old new : Option (List ℕ)) (crew : Crew s) : Type 0 where
  InReports : (all : List (ℕ × Asked)) (malformed : List ℕ) → BreaksFrom manner.form all malformed old new crew → BreaksBatch manner old new crew
  InAnswer : (lines : List (ℕ × Asked)) (malformed : List ℕ) (mid : Option (List ℕ)) (before : Crew s) (memory refused : Bool)
      → ShowsOne manner lines malformed old mid crew before memory refused → BreaksAnswer before.counted mid new → BreaksBatch manner old new crew

-- consecutive intervals of these lines, each with the answer that follows it; in a strict run, no interval follows a line at
-- fault
pub data Shows {s : Semantics} (manner : Manner) (old : Option (List ℕ)) (crew : Crew s) : List (ℕ × Asked) → List ℕ → Option (List ℕ) → Crew s → Bool → Bool → Type 0 where
  Nothing : Shows manner old crew [] [] old crew false false
  Then : (lines own : List (ℕ × Asked)) (malformed bad : List ℕ) (mid new : Option (List ℕ)) (before after : Crew s) (memory more refused again : Bool)
      → Shows manner old crew lines malformed mid before memory refused → is_over manner.strict refused ≡ false → ShowsOne manner own bad mid new before after more again
      → Shows manner old crew (lines ++ own) (malformed ++ bad) new after (memory || more) (refused || again)
  ThenAnswers : (lines : List (ℕ × Asked)) (malformed : List ℕ) (mid new : Option (List ℕ)) (before after : Crew s) (memory refused : Bool)
      → Shows manner old crew lines malformed mid before memory refused → TellsAnswer before.counted mid new → LooksOn before after
      → Shows manner old crew lines malformed new after memory refused
  ThenFlushes : (lines : List (ℕ × Asked)) (malformed : List ℕ) (mid new : Option (List ℕ)) (before : Crew s) (memory refused : Bool)
      → Shows manner old crew lines malformed mid before memory refused → Keeps mid new → Shows manner old crew lines malformed new before memory refused

-- consecutive intervals of the script's lines: of all, or of a prefix if a strict run is over before
pub record ShowsScript {s : Semantics} (manner : Manner) (script : Option (List (ℕ × Asked))) (old new : Option (List ℕ)) (crew crew2 : Crew s) (memory refused : Bool) : Type 0 where
  pub lines : List (ℕ × Asked)
  pub malformed : List ℕ
  pub shows : Shows manner old crew lines malformed new crew2 memory refused
  pub done : AreDone script (is_over manner.strict refused) lines malformed

-- consecutive intervals of a prefix of the script's lines, the last of which, or its answer, breaks off
pub data Breaks {s : Semantics} (manner : Manner) (script : Option (List (ℕ × Asked))) (old new : Option (List ℕ)) (crew : Crew s) : Type 0 where
  InInterval : (lines own : List (ℕ × Asked)) (malformed bad : List ℕ) (mid : Option (List ℕ)) (before : Crew s) (memory refused : Bool)
      → Shows manner old crew lines malformed mid before memory refused → is_over manner.strict refused ≡ false → BreaksOff manner.form own bad mid new before
      → AreBegun script (lines ++ own) (malformed ++ bad) → Breaks manner script old new crew
  BehindInterval : (lines : List (ℕ × Asked)) (malformed : List ℕ) (mid : Option (List ℕ)) (before : Crew s) (memory refused : Bool)
      → Shows manner old crew lines malformed mid before memory refused → BreaksAnswer before.counted mid new → AreBegun script lines malformed
      → Breaks manner script old new crew

-- 3 if a line says `memory`; otherwise 1 if a line is at fault; otherwise 0
abbrev pub status_of : Bool → Bool → ℕ
status_of memory refused = if memory then 3 else (if refused then 1 else 0)

-- 2 for a failed write, 3 for lack of memory
abbrev pub IsBroken : ℕ → Type 0
IsBroken status = (status ≡ 2) ⊎ (status ≡ 3)

-- these are the totals of what was counted in all, and what was taken over is all that was decided
pub record Gathers {s : Semantics} (crew : Crew s) (totals : Totals) : Type 0 where
  pub reads : Reads totals crew.counted
  pub all_told : s.AllTold crew.counted crew.work

-- the last line says what was counted in all, with the run's own status; or only a prefix of it may be written, or nothing
pub data Finishes {s : Semantics} (old new : Option (List ℕ)) (crew : Crew s) (own : ℕ) : ℕ → Type 0 where
  Whole : (totals : Totals) → Gathers crew totals → Appends old new (totals_text totals) → Finishes old new crew own own
  Part : (totals : Totals) (status : ℕ) → Gathers crew totals → AppendsBeginning old new (totals_text totals) → IsBroken status
      → Finishes old new crew own status
  NotGathered : (status : ℕ) → new ≡ old → IsBroken status → Finishes old new crew own status

-- a whole run of the script and its status: its intervals and then the last line, or it breaks off in its intervals
pub data Runs {s : Semantics} (manner : Manner) (script : Option (List (ℕ × Asked))) (old new : Option (List ℕ)) (crew : Crew s) : ℕ → Type 0 where
  Ends : (mid : Option (List ℕ)) (all : Crew s) (memory refused : Bool) (status : ℕ) → ShowsScript manner script old mid crew all memory refused
      → Finishes mid new all (status_of memory refused) status → Runs manner script old new crew status
  Fails : (status : ℕ) → Breaks manner script old new crew → IsBroken status → Runs manner script old new crew status
