-- Reports on files of cases, and their faults.
use Rattle.std.proofs.Common.{◌≡◌, ◌<◌, ◌++◌, ◌∷◌, ℕ, List, [], length, get_or, map, inl, inr, refl, sym, subst}
use Rattle.std.specs.Borrow.{Bor}
use Rattle.std.specs.List.{Contains}
use Rattle.std.proofs.lemmas.List.{get_or-map, length-map}
use Rattle.std.proofs.lemmas.List.Elements.{Contains-get_or}
use Rattle.apd_files.specs.Held.{Held, Holds}
use Rattle.apd_cases.specs.Cases.{AreCases, IsFirstMalformed, Spoils}
use Rattle.apd_cases.specs.Said.{Said}
use Rattle.apd_cases.specs.declared.cases.Unread.{Unread}
use Rattle.apd_cases.specs.declared.cases.Unread.TheVariants as unread
use Rattle.apd_program.specs.declared.fault.ProgramFault.{ProgramFault}
use Rattle.apd_program.specs.declared.fault.ProgramFault.TheVariants.{NoMemory}
use Rattle.apd_program.specs.Faults.{IsMemoryOr}
use Rattle.apd_program.specs.Testing.{IsTried, OneMore, Covers, HasNoTest, NoCases, Unjudged, HaveNoTest}
use Rattle.apd_trials.specs.Reports.{Trial, IsReport}
use Rattle.apd_trials.specs.declared.report.Report.{Report}
use Rattle.apd_trials.specs.declared.row.Row.{Row}
use Rattle.apd_words.specs.Asked.{texts_of}

module _ (files : Held) (path text slice : List ℕ) (there : Holds files path text) (same : slice ≡ text) (f : ProgramFault) where
  pub cases_at_fault : (e : Unread) → Spoils slice e → (e ≡ unread.NoMemory → f ≡ NoMemory) → IsMemoryOr (HasNoTest files path) f
  cases_at_fault (unread.Malformed number) spoils m = inr (NoCases text number there (let P : List ℕ → Type 0 = λ t. IsFirstMalformed t number in subst P same spoils))
  cases_at_fault unread.NoMemory spoils m = inl (m refl)

  pub case_at_fault : (lines : List (ℕ × Said)) → AreCases slice lines → IsMemoryOr (HasNoTest files path) f
  case_at_fault lines cases = inr (Unjudged text lines there (let P : List ℕ → Type 0 = λ t. AreCases t lines in subst P same cases))

-- a report on one more file
pub covers_more : (files : Held) (path name : List ℕ) (rows : List Row) (old new : Report) → IsTried files path rows
    → ((trials : List Trial) → IsReport old trials → IsReport new (trials ++ record { name = name; rows = rows } ∷ []))
    → (paths : List (List ℕ)) → Covers files paths old → Covers files (paths ++ path ∷ []) new
covers_more files path name rows old new tried more paths covers = record {
  trials = covers.trials ++ record { name = name; rows = rows } ∷ [];
  tried = OneMore path paths (record { name = name; rows = rows }) covers.trials covers.tried tried;
  is = more covers.trials covers.is;
}

-- one of the files is at fault
pub one_at_fault : (files : Held) (paths : List (Bor (List ℕ))) (i : ℕ) (beyond : Bor (List ℕ)) (f : ProgramFault) → i < length paths
    → IsMemoryOr (HasNoTest files (get_or paths i beyond).now) f → IsMemoryOr (HaveNoTest files (texts_of paths)) f
one_at_fault files paths i beyond f low (inl memory) = inl memory
one_at_fault files paths i beyond f low (inr has) =
    let text : Bor (List ℕ) → List ℕ = λ word. word.now in
    let within : i < length (map text paths) = subst (λ n. i < n) (sym (length-map paths text)) low in
    let there : get_or (map text paths) i beyond.now ≡ (get_or paths i beyond).now = get_or-map text paths i beyond beyond.now low in
    inr (record { path = (get_or paths i beyond).now; among = subst (λ word. Contains (map text paths) word) there (Contains-get_or (map text paths) i beyond.now within); fault = has })
