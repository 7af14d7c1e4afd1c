-- What was served, and is still to be printed.
use Rattle.std.proofs.Common.{◌≡◌, ◌++◌, ◌||◌, ℕ, Bool, false, inl, inr, List, [], Option, refl, sym, subst, arith, append-nil}
use Rattle.std.specs.Io.KnownBytes.{Appends}
use Rattle.std.proofs.lemmas.List.Sorted.{IsPermutation-refl}
use Rattle.apd_script.specs.Asked.{Asked, commands_of}
use Rattle.apd_script.specs.declared.command.Numbered.{Numbered}
use Rattle.apd_driver.specs.Ahead.{PrintsBeginning, Serves}
use Rattle.apd_driver.specs.Captures.{KeepsLines, ShowsAndRecords}
use Rattle.apd_driver.specs.Capturing.{Recorded, Records}
use Rattle.apd_driver.specs.Crews.{Crew}
use Rattle.apd_driver.specs.Done.{AreBegun}
use Rattle.apd_driver.specs.Lines.{reports_text}
use Rattle.apd_driver.specs.Order.{IsOrdered}
use Rattle.apd_driver.specs.Semantics.{Semantics}
use Rattle.apd_driver.specs.Shows.{Before, Breaks, BreaksOff, InInterval, NotBegun, Nothing, Partly, PrintsPart, Shows, ShowsOne, Within, is_over}
use Rattle.apd_driver.specs.declared.manner.Manner.{Manner}
use Rattle.apd_driver.specs.declared.reports.report.Form.{Form}
use Rattle.apd_driver.specs.declared.reports.report.Report.{Report}
use Rattle.apd_driver.proofs.Broken.{goes_on}
use Rattle.apd_driver.proofs.Gathering.{gathered_answers}
use Rattle.apd_driver.proofs.Kept.{keeps_more, keeps_none}
use Rattle.apd_driver.proofs.Segments.{shows_then}

-- consecutive intervals of these lines were served, and all but the last are printed and recorded
pub record Ahead {s : Semantics} (manner : Manner) (lines : List (ℕ × Asked)) (commands : List Numbered) (reports : List Report) (old new : Option (List ℕ)) (before after : Recorded) (crew crew2 : Crew s) (last_memory last_refused all_memory all_refused : Bool) : Type 0 where
  pub done : List (ℕ × Asked)
  pub mid : Crew s
  pub memory : Bool
  pub refused : Bool
  pub whole : lines ≡ done ++ commands_of commands
  pub goes_on : is_over manner.strict refused ≡ false
  pub shown : Shows manner old crew done [] new mid memory refused
  pub serves : Serves manner commands mid crew2 reports last_memory last_refused
  pub kept : KeepsLines manner.form done old new before after
  pub memory_is : all_memory ≡ (memory || last_memory)
  pub refused_is : all_refused ≡ (refused || last_refused)

-- the reports of an interval that was served are printed
shows_served : {s : Semantics} → (manner : Manner) (commands : List Numbered) (old new : Option (List ℕ)) (crew crew2 : Crew s) (reports : List Report) (memory refused : Bool) → Serves manner commands crew crew2 reports memory refused
    → Appends old new (reports_text manner.form reports) → ShowsOne manner (commands_of commands) [] old new crew crew2 memory refused
shows_served manner commands old new crew crew2 reports memory refused h text =
    record {
      handed = h.handed;
      prints = record { printed = reports; ordered = h.ordered; text = text; memory_is = h.memory_is; refused_is = h.refused_is };
      gathered = h.gathered;
    }

-- printing them breaks off
breaks_served : {s : Semantics} → (manner : Manner) (commands : List Numbered) (old new : Option (List ℕ)) (crew crew2 : Crew s) (reports : List Report) (memory refused : Bool) → Serves manner commands crew crew2 reports memory refused
    → PrintsBeginning manner.form old new reports → BreaksOff manner.form (commands_of commands) [] old new crew
breaks_served manner commands old new crew crew2 reports memory refused h (inl same) = Before same
breaks_served manner commands old new crew crew2 reports memory refused h (inr begun) = Within crew2 h.handed h.gathered (Partly reports h.ordered begun)

-- the same of reports that were handed over in another order
pub part_of : (form : Form) (old new : Option (List ℕ)) (handed reports : List Report) → IsOrdered handed reports → PrintsBeginning form old new reports → PrintsPart form old new handed
part_of form old new handed reports ordered (inl same) = NotBegun same
part_of form old new handed reports ordered (inr begun) = Partly reports ordered begun

-- it breaks off behind them
pub begun_whole : (form : Form) (old new : Option (List ℕ)) (reports : List Report) → Appends old new (reports_text form reports) → PrintsBeginning form old new reports
begun_whole form old new reports text =
    inr (record { taken = reports_text form reports; left = []; whole = sym (append-nil (reports_text form reports)); appended = text })

ordered_none : IsOrdered [] []
ordered_none = record { same = IsPermutation-refl []; sorted = λ k d low high. absurd (omega (arith, high)); stable = λ x. refl }

-- before the first interval
pub ahead_none : {s : Semantics} → (manner : Manner) (old : Option (List ℕ)) (before : Recorded) (crew : Crew s) → Ahead manner [] [] [] old old before before crew crew false false false false
ahead_none manner old before crew =
    record {
      done = [];
      mid = crew;
      memory = false;
      refused = false;
      whole = refl;
      goes_on = goes_on manner.strict;
      shown = Nothing;
      serves = record {
        handed = [];
        gathered = gathered_answers [] crew [] (record { on_malformed = refl; nothing = refl });
        ordered = ordered_none;
        memory_is = refl;
        refused_is = sym (goes_on manner.strict);
      };
      kept = keeps_none manner.form old before;
      memory_is = refl;
      refused_is = refl;
    }

-- the last interval is printed, too
pub ahead_shows : {s : Semantics} → (manner : Manner) (lines : List (ℕ × Asked)) (commands : List Numbered) (reports : List Report) (old mid new : Option (List ℕ)) (before after : Recorded) (crew crew2 : Crew s) (memory refused all_memory all_refused : Bool)
    → Ahead manner lines commands reports old mid before after crew crew2 memory refused all_memory all_refused → Appends mid new (reports_text manner.form reports)
    → Shows manner old crew lines [] new crew2 all_memory all_refused
ahead_shows manner lines commands reports old mid new before after crew crew2 memory refused all_memory all_refused h text =
    rw (h.memory_is, h.refused_is)
    (shows_then manner old mid new crew h.mid crew2 h.done (commands_of commands) lines [] h.memory memory h.refused refused h.whole refl h.shown h.goes_on
    (shows_served manner commands mid new h.mid crew2 reports memory refused h.serves text))

-- and recorded
pub ahead_keeps : {s : Semantics} → (manner : Manner) (lines : List (ℕ × Asked)) (commands : List Numbered) (reports : List Report) (old mid new : Option (List ℕ)) (before between after : Recorded) (crew crew2 : Crew s) (memory refused all_memory all_refused : Bool)
    → Ahead manner lines commands reports old mid before between crew crew2 memory refused all_memory all_refused → Appends mid new (reports_text manner.form reports) → Records between after commands reports
    → KeepsLines manner.form lines old new before after
unfolding shows_served
ahead_keeps manner lines commands reports old mid new before between after crew crew2 memory refused all_memory all_refused h text records =
    let one : ShowsAndRecords manner commands [] mid new between after h.mid crew2 memory refused =
    record { shows = shows_served manner commands mid new h.mid crew2 reports memory refused h.serves text; records = records } in
    keeps_more manner commands [] h.done lines old mid new before between after h.mid crew2 memory refused h.whole h.kept one

-- one more interval is served
pub ahead_more : {s : Semantics} → (manner : Manner) (lines lines2 : List (ℕ × Asked)) (commands commands2 : List Numbered) (reports reports2 : List Report) (old mid new : Option (List ℕ)) (before between after : Recorded) (crew crew2 crew3 : Crew s) (memory refused all_memory all_refused memory2 refused2 : Bool)
    → Ahead manner lines commands reports old mid before between crew crew2 memory refused all_memory all_refused → Appends mid new (reports_text manner.form reports) → Records between after commands reports
    → is_over manner.strict all_refused ≡ false → lines2 ≡ lines ++ commands_of commands2 → Serves manner commands2 crew2 crew3 reports2 memory2 refused2
    → Ahead manner lines2 commands2 reports2 old new before after crew crew3 memory2 refused2 (all_memory || memory2) (all_refused || refused2)
ahead_more manner lines lines2 commands commands2 reports reports2 old mid new before between after crew crew2 crew3 memory refused all_memory all_refused memory2 refused2 h text records over whole serves =
    record {
      done = lines;
      mid = crew2;
      memory = all_memory;
      refused = all_refused;
      whole = whole;
      goes_on = over;
      shown = ahead_shows manner lines commands reports old mid new before between crew crew2 memory refused all_memory all_refused h text;
      serves = serves;
      kept = ahead_keeps manner lines commands reports old mid new before between after crew crew2 memory refused all_memory all_refused h text records;
      memory_is = refl;
      refused_is = refl;
    }

-- printing breaks off
pub ahead_breaks : {s : Semantics} → (manner : Manner) (script : Option (List (ℕ × Asked))) (lines : List (ℕ × Asked)) (commands : List Numbered) (reports : List Report) (old mid new : Option (List ℕ)) (before after : Recorded) (crew crew2 : Crew s) (memory refused all_memory all_refused : Bool)
    → Ahead manner lines commands reports old mid before after crew crew2 memory refused all_memory all_refused → PrintsBeginning manner.form mid new reports → AreBegun script lines []
    → Breaks manner script old new crew
ahead_breaks manner script lines commands reports old mid new before after crew crew2 memory refused all_memory all_refused h part begun =
    InInterval h.done (commands_of commands) [] [] mid h.mid h.memory h.refused h.shown h.goes_on
    (breaks_served manner commands mid new h.mid crew2 reports memory refused h.serves part)
    (subst (λ (l : List (ℕ × Asked)). AreBegun script l []) h.whole begun)
