-- What becomes of the expectations of a file of cases.
use Rattle.std.specs.Prelude.{◌≡◌, ℕ, ◌+◌, ◌==◌, ◌&&◌, nat_lt, List, [], ◌∷◌, ◌++◌, Bool, not}
use Rattle.std.specs.List.{count_by}
use Rattle.apd_files.specs.Held.{Held}
use Rattle.apd_trials.specs.Met.{is_met}
use Rattle.apd_trials.specs.Policies.{IsAdmission}
use Rattle.apd_cases.specs.Said.{Said, Expect}
use Rattle.apd_cases.specs.Situations.{Situation, start, after}
use Rattle.apd_trials.specs.Trials.{Finds}
use Rattle.apd_trials.specs.declared.admission.Admission.{Admission}
use Rattle.apd_cases.specs.declared.line.Expectation.{Expectation}
use Rattle.apd_trials.specs.declared.row.Row.{Row}
use Rattle.apd_trials.specs.declared.row.Tally.{Tally}

-- the line expects nothing
abbrev pub ExpectsNothing : Said → Type 0
ExpectsNothing (Expect e) = ⊥
ExpectsNothing said = Unit {0}

-- the row has the number of the line, what it expects, and what is found for that in this situation, by what the
-- verifier says of its policy
pub record IsRow (files : Held) (s : Situation) (number : ℕ) (e : Expectation) (row : Row) : Type 0 where
  pub line_is : row.line ≡ number
  pub expectation_is : row.expectation ≡ e
  pub admission : Admission
  pub says : IsAdmission files s.policy s.config admission
  pub finds : Finds s admission e row.found

-- The lines lead to this situation and these rows: one for each expectation, in order, found in the situation to which
-- the lines before it lead.
pub data Leads (files : Held) : List (ℕ × Said) → Situation → List Row → Type 0 where
  NoLine : Leads files [] start []
  Changes : (number : ℕ) (said : Said) (lines : List (ℕ × Said)) (s : Situation) (rows : List Row) →
      Leads files lines s rows → ExpectsNothing said → Leads files (lines ++ (number, said) ∷ []) (after s said) rows
  Judges : (number : ℕ) (e : Expectation) (row : Row) (lines : List (ℕ × Said)) (s : Situation) (rows : List Row) →
      Leads files lines s rows → IsRow files s number e row → Leads files (lines ++ (number, Expect e) ∷ []) s (rows ++ row ∷ [])

-- the rows of the lines
abbrev pub AreRows : Held → List (ℕ × Said) → List Row → Type 0
AreRows files lines rows = (s : Situation) × Leads files lines s rows

-- the expectation of the row is met by what was found
abbrev pub is_ok : Row → Bool
is_ok row = is_met row.expectation row.found

-- how many rows are `ok`, and how many aren't
abbrev pub passed : List Row → ℕ
passed rows = count_by is_ok rows

abbrev pub failed : List Row → ℕ
failed rows = count_by (λ row. not (is_ok row)) rows

-- both numbers
abbrev pub tally_of : List Row → Tally
tally_of rows = record { passed = passed rows; failed = failed rows }

-- the sums of both numbers
abbrev pub sum_of : Tally → Tally → Tally
sum_of a b = record { passed = a.passed + b.passed; failed = a.failed + b.failed }

-- there is an expectation, and all are met
abbrev pub is_good_tally : Tally → Bool
is_good_tally t = nat_lt 0 t.passed && t.failed == 0

-- the same of rows
abbrev pub is_good : List Row → Bool
is_good rows = is_good_tally (tally_of rows)
