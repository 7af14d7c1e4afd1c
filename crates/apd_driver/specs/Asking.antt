-- What questions are answered.
use Rattle.std.specs.Prelude.{◌≡◌, ◌≤◌, ℕ, ◌+◌, ◌==◌, List, [], ◌∷◌, ◌++◌, length, map, Option, vec_len, if◌then◌else◌}
use Rattle.std.specs.List.{All, list_all}
use Rattle.std.specs.Io.KnownBytes.{Appends}
use Rattle.std.specs.Cmp.Lexicographic.{slice_cmp}
use Rattle.std.specs.List.Sorted.{IsSortedByKey}
use Rattle.std.specs.Ordering.{nat_cmp, ordering_then}
use Rattle.std.specs.declared.cmp.Ordering.{Ordering}
use Rattle.bpf_regions.specs.declared.maps.Shape.{Shape}
use Rattle.ap_books.specs.Counts.{Counts}
use Rattle.ap_books.specs.Reading.{Reads}
use Rattle.apd_files.specs.Beginning.{AppendsBeginning}
use Rattle.apd_script.specs.declared.question.Question.{Question}
use Rattle.apd_script.specs.declared.question.Question.TheVariants as question
use Rattle.apd_driver.specs.Answers.{answer_text}
use Rattle.apd_driver.specs.declared.answers.answer.Answer.{Answer}
use Rattle.apd_driver.specs.declared.answers.answer.Answer.TheVariants as answer
use Rattle.apd_driver.specs.declared.answers.answer.AgreementRow.{AgreementRow}
use Rattle.apd_driver.specs.declared.answers.answer.EntryRow.{EntryRow}
use Rattle.apd_driver.specs.declared.answers.answer.ProgramRow.{ProgramRow}
use Rattle.apd_driver.specs.declared.answers.answer.StationRow.{StationRow}

-- stations by address: one comes before another by the first octet in which they differ
abbrev pub AreStationsInOrder : List StationRow → Type 0
AreStationsInOrder rows = IsSortedByKey (λ (r : StationRow). r.station) (slice_cmp nat_cmp) rows

-- by the station's address, and then by the TID
abbrev pub agreement_cmp : List ℕ × ℕ → List ℕ × ℕ → Ordering
agreement_cmp a b = ordering_then (slice_cmp nat_cmp a.0 b.0) (nat_cmp a.1 b.1)

-- agreements in that order
abbrev pub AreAgreementsInOrder : List AgreementRow → Type 0
AreAgreementsInOrder rows = IsSortedByKey (λ (r : AgreementRow). (r.station, r.tid)) agreement_cmp rows

-- no run of a program made more steps than its budget
abbrev pub AreWithinBudget : List ProgramRow → Type 0
AreWithinBudget rows = All (λ (r : ProgramRow). r.most ≤ r.budget) rows

-- an entry with this index, unless all its words are 0
abbrev pub entry_if : ℕ → List ℕ → List (ℕ × List ℕ)
entry_if index words = if list_all (λ word. word == 0) words then [] else (index, words) ∷ []

-- the entries of these that aren't all 0; the first has this index
abbrev pub entries_from : ℕ → List (List ℕ) → List (ℕ × List ℕ)
entries_from index [] = []
entries_from index (words ∷ more) = entry_if index words ++ entries_from (index + 1) more

-- a row's index and words
abbrev pub shown : EntryRow → ℕ × List ℕ
shown row = (row.index, row.words.items)

-- the rows are the entries of a map of this shape that aren't all 0, in order
pub record ListsEntries (shape : Shape) (rows : List EntryRow) : Type 0 where
  pub entries : List (List ℕ)
  pub all : length entries ≡ shape.entries
  pub wide : All (λ words. length words ≡ shape.words) entries
  pub listed : map shown rows ≡ entries_from 0 entries

-- the answer to a question, if this is what was counted so far
abbrev pub Answers : Counts → Question → Answer → Type 0
Answers counted question.Help (answer.Usages usages) = vec_len usages ≡ 18
Answers counted question.Stations (answer.Stations rows) = AreStationsInOrder rows.items
Answers counted question.Agreements (answer.Agreements rows) = AreAgreementsInOrder rows.items
Answers counted question.Programs (answer.Programs rows) = AreWithinBudget rows.items
Answers counted question.Counters (answer.Counters totals) = Reads totals counted
Answers counted (question.Dump map shape) (answer.Dump map2 shape2 entries) =
    (map2 ≡ map) × (shape2 ≡ shape) × ListsEntries shape entries.items
Answers counted _ _ = ⊥

-- the answer to a question is printed, if there is one
pub data TellsAnswer (counted : Counts) (old new : Option (List ℕ)) : Type 0 where
  Unasked : new ≡ old → TellsAnswer counted old new
  Answered : (line : ℕ) (question : Question) (answer : Answer) → Answers counted question answer → Appends old new (answer_text line answer) → TellsAnswer counted old new

-- printing an answer breaks off: before it begins, or within it
pub data BreaksAnswer (counted : Counts) (old new : Option (List ℕ)) : Type 0 where
  Unanswered : new ≡ old → BreaksAnswer counted old new
  Begun : (line : ℕ) (question : Question) (answer : Answer) → Answers counted question answer → AppendsBeginning old new (answer_text line answer) → BreaksAnswer counted old new
