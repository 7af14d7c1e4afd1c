-- The lines that are printed for files of cases.
use Rattle.std.specs.Prelude.{ℕ, List, [], ◌∷◌, ◌++◌, codes, decimal, length, if◌then◌else◌}
use Rattle.std.specs.List.{flat_map}
use Rattle.bpf_decode.specs.Answer.{fault_text}
use Rattle.bpf_verifier.specs.Refusals.{refusal_text}
use Rattle.apd_cases.specs.Spelling.{verdict_text, expectation_text}
use Rattle.apd_trials.specs.Rows.{is_ok}
use Rattle.apd_trials.specs.declared.admission.Reason.{Reason}
use Rattle.apd_trials.specs.declared.admission.Reason.TheVariants as reason
use Rattle.apd_trials.specs.declared.found.Found.{Found}
use Rattle.apd_trials.specs.declared.found.Found.TheVariants as found
use Rattle.apd_trials.specs.declared.row.Row.{Row}
use Rattle.apd_trials.specs.declared.row.Tally.{Tally}

-- why a policy isn't admitted
abbrev pub reason_text : Reason → List ℕ
reason_text (reason.Fault e) = fault_text e
reason_text (reason.Refused e) = refusal_text e

-- the first of some notes, and how many follow it
abbrev pub notes_text : List ℕ → List ℕ
notes_text [] = codes "no note"
notes_text (note ∷ []) = codes "note " ++ decimal note
notes_text (note ∷ more) =
    codes "note " ++ (decimal note ++ (codes " and " ++ (decimal (length more) ++ codes " more")))

-- what was found
abbrev pub found_text : Found → List ℕ
found_text (found.Unadmitted why) = reason_text why
found_text (found.Accepted budget) = codes "accepted budget " ++ decimal budget
found_text (found.Ran verdict steps) =
    verdict_text verdict ++ (codes " (" ++ (decimal steps ++ codes " steps)"))
found_text (found.Noted notes) = notes_text notes.items
found_text (found.Holds value) = decimal value

-- `ok`, or what was expected and what was found
abbrev pub result_text : Row → List ℕ
result_text row =
    (if is_ok row then codes "ok"
    else codes "FAILED: expected " ++ (expectation_text row.expectation
    ++ (codes ", was " ++ found_text row.found)))

-- the line of a row of the file with this path
abbrev pub row_text : List ℕ → Row → List ℕ
row_text path row =
    path ++ (codes ":" ++ (decimal row.line ++ (codes ": " ++ (result_text row ++ 10 ∷ []))))

-- the lines of all rows
abbrev pub rows_text : List ℕ → List Row → List ℕ
rows_text path rows = flat_map (row_text path) rows

-- the last line: how many expectations are met, and how many aren't
abbrev pub counts_text : Tally → List ℕ
counts_text t =
    decimal t.passed ++ (codes " passed, " ++ (decimal t.failed ++ (codes " failed" ++ 10 ∷ [])))
