-- What an interval prints, and what the capture has of it.
use Rattle.std.proofs.Common.{◌≡◌, ◌==◌, ℕ, List, [], ◌++◌, Bool, true, Option, length, take, drop, sym, ap, subst, ◌∙◌, append-nil}
use Rattle.std.specs.List.{slice_range}
use Rattle.std.proofs.lemmas.Bool.{eqb-true}
use Rattle.std.proofs.lemmas.List.{nil_from_length, take-append-drop}
use Rattle.std.proofs.lemmas.Slice.{between_from_start}
use Rattle.apd_script.specs.Asked.{commands_of}
use Rattle.apd_script.specs.declared.command.Numbered.{Numbered}
use Rattle.apd_driver.specs.Captures.{AnswersAndRecords, PrintsAndRecords, ShowsAndRecords}
use Rattle.apd_driver.specs.Capturing.{Recorded}
use Rattle.apd_driver.specs.Crews.{Crew}
use Rattle.apd_driver.specs.Semantics.{Semantics}
use Rattle.apd_driver.specs.Shows.{Gathered, OnlyMalformed}
use Rattle.apd_driver.specs.declared.manner.Manner.{Manner}
use Rattle.apd_driver.specs.declared.reports.report.Report.{Report}
use Rattle.apd_driver.proofs.Gathering.{gathered_answers}

-- reports of an interval, behind what neither printed nor recorded
pub shows_interval : {s : Semantics} → (manner : Manner) (commands : List Numbered) (malformed : List ℕ) (old mid new : Option (List ℕ)) (before between after : Recorded) (crew crew2 : Crew s) (handed : List Report) (memory refused : Bool) → mid ≡ old
    → between ≡ before → Gathered (commands_of commands) malformed crew crew2 handed → PrintsAndRecords manner commands mid new between after handed memory refused
    → ShowsAndRecords manner commands malformed old new before after crew crew2 memory refused
shows_interval manner commands malformed old mid new before between after crew crew2 handed memory refused same kept g h =
    let p : PrintsAndRecords manner commands old new before after handed memory refused =
    subst (λ (r : Recorded). PrintsAndRecords manner commands old new r after handed memory refused) kept
    (subst (λ (o : Option (List ℕ)). PrintsAndRecords manner commands o new between after handed memory refused) same h) in
    record { shows = record { handed = handed; prints = p.prints; gathered = g }; records = p.records }

-- reports on malformed lines
pub answers_malformed : (manner : Manner) (malformed : List ℕ) (old new : Option (List ℕ)) (before after : Recorded) (handed : List Report) (memory refused : Bool) → OnlyMalformed malformed handed
    → PrintsAndRecords manner [] old new before after handed memory refused → AnswersAndRecords manner malformed old new before after memory refused
answers_malformed manner malformed old new before after handed memory refused only h =
    record { shows = record { handed = handed; prints = h.prints; only = only }; records = h.records }

-- an interval of no commands shows them
pub shows_malformed : {s : Semantics} → (manner : Manner) (commands : List Numbered) (malformed : List ℕ) (old new : Option (List ℕ)) (before after : Recorded) (crew : Crew s) (memory refused : Bool) → commands ≡ []
    → AnswersAndRecords manner malformed old new before after memory refused → ShowsAndRecords manner commands malformed old new before after crew crew memory refused
shows_malformed {s} manner commands malformed old new before after crew memory refused empty h =
    subst (λ (cs : List Numbered). ShowsAndRecords manner cs malformed old new before after crew crew memory refused) (sym empty)
    (record {
      shows = record { handed = h.shows.handed; prints = h.shows.prints; gathered = gathered_answers malformed crew h.shows.handed h.shows.only };
      records = h.records;
    })

-- no commands
pub no_commands : (commands : List Numbered) → (length commands == 0) ≡ true → commands ≡ []
no_commands commands is = nil_from_length commands (eqb-true (length commands) 0 is)

-- all commands
pub whole_segment : (commands : List Numbered) (next : ℕ) → drop next commands ≡ [] → slice_range commands 0 next ≡ commands
whole_segment commands next none =
    between_from_start commands next
    ∙ (sym (append-nil (take next commands)) ∙ (ap (λ (l : List Numbered). take next commands ++ l) (sym none) ∙ take-append-drop next commands))

-- the same interval, of commands that are the same
pub shows_same : {s : Semantics} → (manner : Manner) (commands commands2 : List Numbered) (malformed : List ℕ) (old new : Option (List ℕ)) (before after : Recorded) (crew crew2 : Crew s) (memory refused : Bool) → commands ≡ commands2
    → ShowsAndRecords manner commands malformed old new before after crew crew2 memory refused → ShowsAndRecords manner commands2 malformed old new before after crew crew2 memory refused
shows_same manner commands commands2 malformed old new before after crew crew2 memory refused is shown =
    subst (λ (cs : List Numbered). ShowsAndRecords manner cs malformed old new before after crew crew2 memory refused) is shown
