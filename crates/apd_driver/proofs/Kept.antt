-- Intervals of a run that are printed and recorded.
use Rattle.std.proofs.Common.{◌≡◌, ◌<◌, ℕ, arith, inl, inr, List, [], ◌∷◌, ◌++◌, Bool, Option, None, refl, sym, ap, subst, ◌∙◌, append_assoc, append-nil}
use Rattle.std.specs.Io.KnownBytes.{Keeps}
use Rattle.std.specs.List.{flat_map}
use Rattle.std.proofs.lemmas.List.{map-append}
use Rattle.std.proofs.lemmas.List.Concat.{flat_map-append}
use Rattle.ap_books.specs.Counts.{Counts}
use Rattle.apd_script.specs.Asked.{Asked, commands_of, numbered_of}
use Rattle.apd_script.specs.declared.command.Numbered.{Numbered}
use Rattle.apd_driver.specs.Asking.{TellsAnswer}
use Rattle.apd_driver.specs.Captures.{Interval, KeepsLines, KeepsRun, KeepsWhole, NoReports, PrintsAll, RecordsAll, ShowsAndRecords, ThenAnswer, ThenFlushed, ThenReports}
use Rattle.apd_driver.specs.Capturing.{Recorded}
use Rattle.apd_driver.specs.Crews.{Crew}
use Rattle.apd_driver.specs.Semantics.{Semantics}
use Rattle.apd_driver.specs.Shows.{Finishes, IsBroken, NotGathered, Part, Whole}
use Rattle.apd_driver.specs.declared.manner.Manner.{Manner}
use Rattle.apd_driver.specs.declared.reports.report.Form.{Form}

records_two : (old mid new : Recorded) (is js : List Interval) → RecordsAll old mid is → RecordsAll mid new js → RecordsAll old new (is ++ js)
records_two old mid new [] js h k = subst (λ (r : Recorded). RecordsAll r new js) h k
records_two old mid new (i ∷ is) js h k = (h.0, h.1, records_two h.0 mid new is js h.2 k)

prints_two : (form : Form) (old mid new : Option (List ℕ)) (is js : List Interval) → PrintsAll form old is mid → PrintsAll form mid js new → PrintsAll form old (is ++ js) new
prints_two form old mid new is js h NoReports = subst (λ (l : List Interval). PrintsAll form old l mid) (sym (append-nil is)) h
prints_two form old mid new is js h (ThenReports intervals i late last more text) =
    subst (λ (l : List Interval). PrintsAll form old l new) (append_assoc is intervals (i ∷ []))
    (ThenReports (is ++ intervals) i late new (prints_two form old mid late is intervals h more) text)
prints_two form old mid new is js h (ThenAnswer intervals late last counted more tells) =
    ThenAnswer (is ++ intervals) late new counted (prints_two form old mid late is intervals h more) tells
prints_two form old mid new is js h (ThenFlushed intervals late last more keeps) =
    ThenFlushed (is ++ intervals) late new (prints_two form old mid late is intervals h more) keeps

abbrev commands_in : List Interval → List Numbered
commands_in is = flat_map (λ (i : Interval). i.commands) is

-- no interval yet
pub keeps_none : (form : Form) (old : Option (List ℕ)) (before : Recorded) → KeepsLines form [] old old before before
keeps_none form old before = record { intervals = []; asked = refl; prints = NoReports; records = refl }

-- one interval
keeps_one : {s : Semantics} → (manner : Manner) (commands : List Numbered) (malformed : List ℕ) (old new : Option (List ℕ)) (before after : Recorded) (crew crew2 : Crew s) (memory refused : Bool)
    → ShowsAndRecords manner commands malformed old new before after crew crew2 memory refused → KeepsLines manner.form (commands_of commands) old new before after
keeps_one manner commands malformed old new before after crew crew2 memory refused h =
    let i : Interval = record { commands = commands; printed = h.shows.prints.printed } in
    record {
      intervals = i ∷ [];
      asked = ap commands_of (sym (append-nil commands));
      prints = ThenReports [] i old new NoReports h.shows.prints.text;
      records = (after, h.records, refl);
    }

-- some lines, and then others
pub keeps_two : (form : Form) (lines own all : List (ℕ × Asked)) (old mid new : Option (List ℕ)) (before between after : Recorded) → all ≡ lines ++ own
    → KeepsLines form lines old mid before between → KeepsLines form own mid new between after → KeepsLines form all old new before after
keeps_two form lines own all old mid new before between after is h k =
    record {
      intervals = h.intervals ++ k.intervals;
      asked = is ∙ ((λ x. h.asked x ++ k.asked x)
          ∙ (sym (map-append numbered_of (commands_in h.intervals) (commands_in k.intervals)) ∙ ap commands_of (sym (flat_map-append (λ (i : Interval). i.commands) h.intervals k.intervals))));
      prints = prints_two form old mid new h.intervals k.intervals h.prints k.prints;
      records = records_two before between after h.intervals k.intervals h.records k.records;
    }

-- one more interval
pub keeps_more : {s : Semantics} → (manner : Manner) (commands : List Numbered) (malformed : List ℕ) (lines all : List (ℕ × Asked)) (old mid new : Option (List ℕ)) (before between after : Recorded) (crew crew2 : Crew s) (memory refused : Bool)
    → all ≡ lines ++ commands_of commands → KeepsLines manner.form lines old mid before between
    → ShowsAndRecords manner commands malformed mid new between after crew crew2 memory refused → KeepsLines manner.form all old new before after
keeps_more manner commands malformed lines all old mid new before between after crew crew2 memory refused is h one =
    keeps_two manner.form lines (commands_of commands) all old mid new before between after is h
    (keeps_one manner commands malformed mid new between after crew crew2 memory refused one)

-- the answer behind an interval
pub keeps_answer : {s : Semantics} → (manner : Manner) (commands : List Numbered) (malformed : List ℕ) (old mid new : Option (List ℕ)) (before between after : Recorded) (crew crew2 : Crew s) (memory refused : Bool) (counted : Counts)
    → ShowsAndRecords manner commands malformed old mid before between crew crew2 memory refused → TellsAnswer counted mid new → after ≡ between → KeepsRun manner.form None old new before after
keeps_answer manner commands malformed old mid new before between after crew crew2 memory refused counted one tells same =
    let k : KeepsLines manner.form (commands_of commands) old mid before between = keeps_one manner commands malformed old mid before between crew crew2 memory refused one in
    record {
      lines = commands_of commands;
      begun = tt;
      keeps = record {
        intervals = k.intervals;
        asked = k.asked;
        prints = ThenAnswer k.intervals mid new counted k.prints tells;
        records = subst (λ (r : Recorded). RecordsAll before r k.intervals) (sym same) k.records;
      };
    }

-- no line yet
pub run_none : (form : Form) (old : Option (List ℕ)) (before : Recorded) → KeepsRun form None old old before before
run_none form old before = record { lines = []; begun = tt; keeps = keeps_none form old before }

-- what was printed is flushed
pub run_flushed : (form : Form) (old mid new : Option (List ℕ)) (before between after : Recorded) → KeepsRun form None old mid before between → Keeps mid new → after ≡ between
    → KeepsRun form None old new before after
run_flushed form old mid new before between after h keeps same =
    record {
      lines = h.lines;
      begun = tt;
      keeps = record {
        intervals = h.keeps.intervals;
        asked = h.keeps.asked;
        prints = ThenFlushed h.keeps.intervals mid new h.keeps.prints keeps;
        records = subst (λ (r : Recorded). RecordsAll before r h.keeps.intervals) (sym same) h.keeps.records;
      };
    }

-- more lines
pub run_more : (form : Form) (old mid new : Option (List ℕ)) (before between after : Recorded) → KeepsRun form None old mid before between → KeepsRun form None mid new between after
    → KeepsRun form None old new before after
run_more form old mid new before between after h k =
    record { lines = h.lines ++ k.lines; begun = tt; keeps = keeps_two form h.lines k.lines (h.lines ++ k.lines) old mid new before between after refl h.keeps k.keeps }

no_low : (status : ℕ) → IsBroken status → status < 2 → ⊥
no_low status (inl two) low = omega (arith, two, low)
no_low status (inr three) low = omega (arith, three, low)

-- a run that breaks off has a status of 2 or 3
pub keeps_broken : (form : Form) (script : Option (List (ℕ × Asked))) (old new : Option (List ℕ)) (before after : Recorded) (status : ℕ) → IsBroken status → status < 2
    → KeepsWhole form script old new before after
keeps_broken form script old new before after status broken low = absurd (no_low status broken low)

-- a whole run, and its totals
pub keeps_whole : {s : Semantics} → (form : Form) (script : Option (List (ℕ × Asked))) (old mid new : Option (List ℕ)) (before between after : Recorded) (crew : Crew s) (own status : ℕ) → KeepsRun form script old mid before between
    → Finishes mid new crew own status → after ≡ between → status < 2 → KeepsWhole form script old new before after
keeps_whole form script old mid new before between after crew own status k (Whole totals gathers text) same low =
    record { mid = mid; totals = totals; keeps = subst (λ (r : Recorded). KeepsRun form script old mid before r) (sym same) k; last = text }
keeps_whole form script old mid new before between after crew own status k (Part totals late gathers text broken) same low = absurd (no_low status broken low)
keeps_whole form script old mid new before between after crew own status k (NotGathered late nothing broken) same low = absurd (no_low status broken low)
