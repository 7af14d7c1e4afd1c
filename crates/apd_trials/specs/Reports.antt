-- What is printed for files of cases, one after another.
use Rattle.std.specs.Prelude.{◌≡◌, ℕ, Bool, List, ◌++◌, string_bytes}
use Rattle.std.specs.List.{flat_map, list_all}
use Rattle.apd_trials.specs.Rows.{tally_of, is_good}
use Rattle.apd_trials.specs.Texts.{rows_text, counts_text}
use Rattle.apd_trials.specs.declared.report.Report.{Report}
use Rattle.apd_trials.specs.declared.row.Row.{Row}

-- a file of cases: the name that is printed for it, and what becomes of its expectations
pub record Trial : Type 0 where
  pub name : List ℕ
  pub rows : List Row

-- the lines of all rows
abbrev pub trials_text : List Trial → List ℕ
trials_text trials = flat_map (λ t. rows_text t.name t.rows) trials

-- the rows of all files
abbrev pub all_rows : List Trial → List Row
all_rows trials = flat_map (λ t. t.rows) trials

-- each file has an expectation, and all are met
abbrev pub are_good : List Trial → Bool
are_good trials = list_all (λ t. is_good t.rows) trials

-- all that is printed: the lines of all rows, and one of sums
abbrev pub report_text : List Trial → List ℕ
report_text trials = trials_text trials ++ counts_text (tally_of (all_rows trials))

-- the report is on these files
pub record IsReport (report : Report) (trials : List Trial) : Type 0 where
  pub text : string_bytes report.text ≡ trials_text trials
  pub tally : report.tally ≡ tally_of (all_rows trials)
  pub good : report.is_good ≡ are_good trials
