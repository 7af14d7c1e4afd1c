-- Where an answer goes: standard output, or a file.
use Rattle.std.specs.Prelude.{◌≡◌, ◌≢◌, ℕ, Bool, true, false, List, Option, Some, None, Result, Ok, Err}
use Rattle.std.specs.Io.KnownBytes.{Appends, Keeps}
use Rattle.apd_files.specs.Beginning.{AppendsBeginning}
use Rattle.apd_files.specs.Held.{Saved, Saves}
use Rattle.apd_program.specs.Lines.{printed, status_of, is_output}
use Rattle.apd_program.specs.declared.answer.Answer.{Answer}
use Rattle.apd_program.specs.declared.output.Undelivered.{Undelivered}
use Rattle.apd_program.specs.declared.output.Undelivered.TheVariants.{NoMemory, Unwritten, Unsaved}

-- no file is named for the answer, or it isn't an output
abbrev pub GoesOut : Option (List ℕ) → Bool → Type 0
GoesOut None output = Unit {0}
GoesOut (Some path) output = output ≡ false

-- a file is named for the answer, which is an output
abbrev pub IsForFile : Option (List ℕ) → Bool → Type 0
IsForFile None output = ⊥
IsForFile (Some path) output = output ≡ true

-- what standard output gets of an answer
pub data Delivers (a : Answer) (output old new : Option (List ℕ)) : Result ℕ Undelivered → Type 0 where
  Printed : GoesOut output (is_output a) → Appends old new (printed a) → Delivers a output old new (Ok (status_of a))
  Stored : IsForFile output (is_output a) → Keeps old new → Delivers a output old new (Ok (status_of a))
  Begun : (e : Undelivered) → e ≢ NoMemory → AppendsBeginning old new (printed a) → Delivers a output old new (Err e)
  Unstored : (e : Undelivered) → e ≢ NoMemory → IsForFile output (is_output a) → Keeps old new → Delivers a output old new (Err e)
  Nothing : Keeps old new → Delivers a output old new (Err NoMemory)

-- what files get of an answer: one the whole text, if the answer is an output; if writing fails, nothing is said
pub data Stores (a : Answer) (output : Option (List ℕ)) (old new : Saved) (r : Result ℕ Undelivered) : Type 0 where
  OneFile : (path : List ℕ) → output ≡ Some path → is_output a ≡ true → Saves path (printed a) old new → Stores a output old new r
  BrokenFile : (e : Undelivered) → r ≡ Err e → IsForFile output (is_output a) → Stores a output old new r
  NoFile : new ≡ old → Stores a output old new r

-- the status after that: the answer's, 2 if a write failed, 3 if memory ran out
abbrev pub status_after : Result ℕ Undelivered → ℕ
status_after (Ok status) = status
status_after (Err NoMemory) = 3
status_after (Err (Unwritten why)) = 2
status_after (Err (Unsaved why)) = 2
