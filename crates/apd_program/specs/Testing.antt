-- What is answered for files of cases.
use Rattle.std.specs.Prelude.{◌≡◌, ℕ, List, [], ◌∷◌, ◌++◌, string_bytes}
use Rattle.std.specs.List.{Contains}
use Rattle.apd_files.specs.Held.{Held, Holds, Lacks}
use Rattle.apd_files.specs.declared.inputs.files.FileKind.TheVariants.{Script}
use Rattle.apd_cases.specs.Cases.{AreCases, IsFirstMalformed}
use Rattle.apd_cases.specs.Said.{Said}
use Rattle.apd_trials.specs.Reports.{Trial, IsReport, report_text, are_good}
use Rattle.apd_trials.specs.Rows.{AreRows}
use Rattle.apd_trials.specs.declared.report.Report.{Report}
use Rattle.apd_trials.specs.declared.row.Row.{Row}
use Rattle.apd_program.specs.declared.answer.Answer.{Answer}
use Rattle.apd_program.specs.declared.answer.Answer.TheVariants.{Tested}

-- the file's text is cases, and this becomes of each expectation
pub record IsTried (files : Held) (path : List ℕ) (rows : List Row) : Type 0 where
  pub text : List ℕ
  pub there : Holds files path text
  pub lines : List (ℕ × Said)
  pub cases : AreCases text lines
  pub found : AreRows files lines rows

-- the same of several files, in order, each with some name that is printed for it
pub data AreTried (files : Held) : List (List ℕ) → List Trial → Type 0 where
  NoFile : AreTried files [] []
  OneMore : (path : List ℕ) (paths : List (List ℕ)) (trial : Trial) (trials : List Trial) →
      AreTried files paths trials → IsTried files path trial.rows → AreTried files (paths ++ path ∷ []) (trials ++ trial ∷ [])

-- the report is on these files
pub record Covers (files : Held) (paths : List (List ℕ)) (report : Report) : Type 0 where
  pub trials : List Trial
  pub tried : AreTried files paths trials
  pub is : IsReport report trials

-- the answer has the lines on these files
abbrev pub Reports : List Trial → Answer → Type 0
Reports trials (Tested text is_good) =
    (string_bytes text ≡ report_text trials) × (is_good ≡ are_good trials)
Reports trials _ = ⊥

-- the answer reports what becomes of each expectation in the files
pub record AreTested (files : Held) (paths : List (List ℕ)) (a : Answer) : Type 0 where
  pub trials : List Trial
  pub tried : AreTried files paths trials
  pub reports : Reports trials a

-- The file can't be read, or has a malformed line, or is one of cases of which one can't be judged (only tests show
-- why).
pub data HasNoTest (files : Held) (path : List ℕ) : Type 0 where
  NoFile : Lacks Script files path → HasNoTest files path
  NoCases : (text : List ℕ) (number : ℕ) → Holds files path text → IsFirstMalformed text number → HasNoTest files path
  Unjudged : (text : List ℕ) (lines : List (ℕ × Said)) → Holds files path text → AreCases text lines → HasNoTest files path

-- this is so of one of the files
pub record HaveNoTest (files : Held) (paths : List (List ℕ)) : Type 0 where
  pub path : List ℕ
  pub among : Contains paths path
  pub fault : HasNoTest files path
