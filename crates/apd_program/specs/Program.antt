-- What a run of the program does.
use Rattle.std.specs.Prelude.{◌≡◌, ◌⊎◌, ℕ, List, Option, string_bytes}
use Rattle.std.specs.Io.KnownBytes.{Appends, Keeps}
use Rattle.clap.specs.declared.builder.value_parser.ValueParser.{ValueParser}
use Rattle.apd_files.specs.Beginning.{AppendsBeginning}
use Rattle.apd_words.specs.Asked.{Asked, Wanted, Run, Live, Answer}
use Rattle.apd_words.specs.CommandLine.{TakesNames, hook_names, worker_names}
use Rattle.apd_words.specs.Reads.{AsksFor, IsHelp}
use Rattle.apd_words.specs.declared.Told.{Told}
use Rattle.apd_words.specs.declared.Told.TheVariants as told
use Rattle.apd_program.specs.declared.answer.Answer as answers
use Rattle.apd_files.specs.Held.{Held}
use Rattle.apd_program.specs.Lines.{printed, status_of, is_output}
use Rattle.apd_program.specs.Answers.{IsAnswer, HasNoAnswer}
use Rattle.apd_program.specs.Delivered.{GoesOut, IsForFile}
use Rattle.apd_program.specs.Printed.{PrintsText}

-- What is written to standard output for a question, with a file for the answer or without, and the status. Lack of
-- memory, faulty files and words, and an answer for a file leave it unchanged; a failed write leaves a prefix.
pub data Performs (files : Held) (a : Asked) (output old new : Option (List ℕ)) : ℕ → Type 0 where
  Wrote : (answer : answers.Answer) → IsAnswer files a answer → GoesOut output (is_output answer) → Appends old new (printed answer) → Performs files a output old new (status_of answer)
  Saved : (answer : answers.Answer) → IsAnswer files a answer → IsForFile output (is_output answer) → Keeps old new → Performs files a output old new (status_of answer)
  Stopped : (answer : answers.Answer) → IsAnswer files a answer → AppendsBeginning old new (printed answer) → Performs files a output old new 2
  Unsaved : (answer : answers.Answer) → IsAnswer files a answer → IsForFile output (is_output answer) → Keeps old new → Performs files a output old new 2
  Refrained : HasNoAnswer files a → Keeps old new → Performs files a output old new 2
  Exhausted : Keeps old new → Performs files a output old new 3

-- nothing is written, and the status is that of a fault or of lack of memory
abbrev pub Refuses : Option (List ℕ) → Option (List ℕ) → ℕ → Type 0
Refuses old new status = (new ≡ old) × ((status ≡ 2) ⊎ (status ≡ 3))

-- what is wanted is done without threads: no script runs, nor lines as they come
abbrev pub Responds : Held → Wanted → Option (List ℕ) → Option (List ℕ) → ℕ → Type 0
Responds files (Answer a output) old new status = Performs files a output old new status
Responds files (Run config script workers states work quiet strict verbose capture replaces) old new status = Refuses old new status
Responds files (Live config workers states work strict verbose clock events color capture replaces) old new status = Refuses old new status

-- what is written for words that make no request, and the status
abbrev pub Tells : Told → Option (List ℕ) → Option (List ℕ) → ℕ → Type 0
Tells (told.Help text) old new status = PrintsText (string_bytes text) old new status
Tells (told.Fault text) old new status = (new ≡ old) × (status ≡ 2)
Tells told.NoMemory old new status = (new ≡ old) × (status ≡ 3)

-- The same for all words: they make a request, ask for help, or neither.
pub data Does (hooks numbers : ValueParser) (words : List (List ℕ)) (files : Held) (old new : Option (List ℕ)) : ℕ → Type 0 where
  Performed : (w : Wanted) (status : ℕ) → AsksFor hooks numbers words w → Responds files w old new status → Does hooks numbers words files old new status
  Helped : (text : List ℕ) → IsHelp hooks numbers words → Appends old new text → Does hooks numbers words files old new 0
  StoppedHelp : (text : List ℕ) → IsHelp hooks numbers words → AppendsBeginning old new text → Does hooks numbers words files old new 2
  Complained : ((w : Wanted) → AsksFor hooks numbers words w → ⊥) → Keeps old new → Does hooks numbers words files old new 2
  Exhausted : Keeps old new → Does hooks numbers words files old new 3

-- a run on the words ends with the status
pub record Runs (words : List (List ℕ)) (files : Held) (old new : Option (List ℕ)) (status : ℕ) : Type 0 where
  pub hooks : ValueParser
  pub numbers : ValueParser
  pub takes_hooks : TakesNames hooks hook_names
  pub takes_numbers : TakesNames numbers worker_names
  pub does : Does hooks numbers words files old new status
