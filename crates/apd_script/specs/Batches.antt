-- Lines that are read as they come.
use Rattle.std.specs.Prelude.{◌≡◌, ◌≤◌, ℕ, ◌+◌, List, [], ◌∷◌, ◌++◌, length, map, codes, Option, Some, None, IsUtf8, IsSome, Bool, true, false, if◌then◌else◌}
use Rattle.std.specs.List.{All}
use Rattle.bpf_regions.specs.declared.maps.Shape.{Shape}
use Rattle.apd_script.specs.Asked.{Asked, asked_of}
use Rattle.apd_script.specs.Lines.{line_asks, IsWellFormed}
use Rattle.apd_script.specs.Questions.{Asks}
use Rattle.apd_script.specs.Script.{lines_of, numbered}
use Rattle.apd_script.specs.Words.{words}
use Rattle.apd_script.specs.declared.batch.Added.{Added}
use Rattle.apd_script.specs.declared.batch.Added.TheVariants as added
use Rattle.apd_script.specs.declared.batch.MalformedLine.{MalformedLine}
use Rattle.apd_script.specs.declared.batch.Said.{Said}
use Rattle.apd_script.specs.declared.batch.Said.TheVariants as said
use Rattle.apd_script.specs.declared.command.Command.{Command}
use Rattle.apd_script.specs.declared.command.Command.TheVariants as command
use Rattle.apd_script.specs.declared.command.Numbered.{Numbered}
use Rattle.apd_script.specs.declared.question.NumberedQuestion.{NumberedQuestion}
use Rattle.apd_script.specs.declared.question.Question.{Question}

-- the most bytes of a line
abbrev pub most_bytes : ℕ
most_bytes = 8192

-- the line is short enough, and blank, a comment or a command
pub record IsTaken (maps : List Shape) (line : List ℕ) : Type 0 where
  pub short : length line ≤ most_bytes
  pub well_formed : IsWellFormed maps line

-- the line is short enough, and a question
pub record IsQuestion (maps : List Shape) (line : List ℕ) (question : Question) : Type 0 where
  pub short : length line ≤ most_bytes
  pub asks : Asks maps line question

-- the line is none of these
pub record IsMalformed (maps : List Shape) (line : List ℕ) : Type 0 where
  pub untaken : IsTaken maps line → ⊥
  pub unasked : (question : Question) → IsQuestion maps line question → ⊥

-- the line is `quit`
pub record IsQuit (line : List ℕ) : Type 0 where
  pub utf8 : IsUtf8 line
  pub said : words line ≡ codes "quit" ∷ []

-- the numbers of malformed lines
abbrev pub numbers_of : List MalformedLine → List ℕ
numbers_of malformed = map (λ m. m.line) malformed

-- a question with its line's number, if there is one
abbrev pub questions_of : Option NumberedQuestion → List (ℕ × Question)
questions_of None = []
questions_of (Some q) = (q.line, q.question) ∷ []

-- What the line with this number adds: to the commands what it asks for; or its number to those of malformed lines, which
-- ask for nothing; and its question, if it is one.
pub data Adds (maps : List Shape) (number : ℕ) (line : List ℕ) (asked : List (ℕ × Asked)) (bad : List ℕ)
    : List (ℕ × Asked) → List ℕ → List (ℕ × Question) → Type 0 where
  Taken : (asked2 : List (ℕ × Asked)) (bad2 : List ℕ) → IsTaken maps line → asked2 ≡ asked ++ numbered number (line_asks maps line) [] → bad2 ≡ bad
      → Adds maps number line asked bad asked2 bad2 []
  Questions : (asked2 : List (ℕ × Asked)) (bad2 : List ℕ) (question : Question) → IsQuestion maps line question → asked2 ≡ asked → bad2 ≡ bad
      → Adds maps number line asked bad asked2 bad2 ((number, question) ∷ [])
  Malformed : (asked2 : List (ℕ × Asked)) (bad2 : List ℕ) → IsMalformed maps line → asked2 ≡ asked → bad2 ≡ bad ++ number ∷ []
      → Adds maps number line asked bad asked2 bad2 []

-- Whole lines are taken from the beginning of a text, one after another, the first with this number: what they ask for,
-- the numbers of the malformed ones, the questions, how many lines they are, and the text behind the last one's line feed.
-- None is `quit`.
pub data Takes (maps : List Shape) (first : ℕ) (text : List ℕ) : List (ℕ × Asked) → List ℕ → List (ℕ × Question) → ℕ → List ℕ → Type 0 where
  NoLine : Takes maps first text [] [] [] 0 text
  OneMore : (asked asked2 : List (ℕ × Asked)) (bad bad2 : List ℕ) (questions own questions2 : List (ℕ × Question)) (lines : ℕ) (mid line rest : List ℕ)
      → Takes maps first text asked bad questions lines mid → lines_of mid ≡ line ∷ lines_of rest → (IsQuit line → ⊥)
      → Adds maps (first + lines) line asked bad asked2 bad2 own → questions2 ≡ questions ++ own → Takes maps first text asked2 bad2 questions2 (lines + 1) rest

-- Lines were taken before: a text, of which this is left; what they ask for, how many they are, and more of the text,
-- which came later. The next line has this number.
pub record Earlier (maps : List Shape) (next : ℕ) (text : List ℕ) : Type 0 where
  pub first : ℕ
  pub whole : List ℕ
  pub left : List ℕ
  pub more : List ℕ
  pub asked : List (ℕ × Asked)
  pub bad : List ℕ
  pub questions : List (ℕ × Question)
  pub lines : ℕ
  pub takes : Takes maps first whole asked bad questions lines left
  pub next_is : next ≡ first + lines
  pub text_is : text ≡ left ++ more

-- with these lines behind the earlier ones, all are taken from all of the text, however it came
abbrev pub Continues : {maps : List Shape} {next : ℕ} {text : List ℕ} → Earlier maps next text → List (ℕ × Asked) → List ℕ → List (ℕ × Question) → ℕ → List ℕ → Type 0
Continues {maps} e asked bad questions lines rest =
    Takes maps e.first (e.whole ++ e.more) (e.asked ++ asked) (e.bad ++ bad) (e.questions ++ questions) (e.lines + lines) rest

-- whether a command is `wait`
abbrev pub is_wait : Command → Bool
is_wait command.Wait = true
is_wait _ = false

-- no command is `wait`
abbrev pub NoneWaits : List Numbered → Type 0
NoneWaits commands = All (λ n. is_wait n.command ≡ false) commands

-- the commands after the first `wait`
abbrev pub after_wait : List Numbered → List Numbered
after_wait [] = []
after_wait (n ∷ ns) = if is_wait n.command then ns else after_wait ns

-- the last command is `wait`
pub record EndsInWait (commands : List Numbered) : Type 0 where
  pub before : List Numbered
  pub last : Numbered
  pub whole : commands ≡ before ++ last ∷ []
  pub waits : is_wait last.command ≡ true

-- the text begins with a line `quit`, which has its end
pub record BeginsWithQuit (text : List ℕ) : Type 0 where
  pub line : List ℕ
  pub rest : List ℕ
  pub cut : lines_of text ≡ line ∷ lines_of rest
  pub quit : IsQuit line

-- the text has no whole line
pub record HasNoLine (text : List ℕ) : Type 0 where
  pub line : List ℕ
  pub one : lines_of text ≡ line ∷ []

-- why no more lines are taken: there were 4096, the last one is `wait` or a question, the next one is `quit`, or no whole
-- line is left
pub data Stops (commands : List Numbered) (question : Option NumberedQuestion) (lines : ℕ) (rest : List ℕ) : Type 0 where
  Full : lines ≡ 4096 → Stops commands question lines rest
  AtWait : EndsInWait commands → Stops commands question lines rest
  AtQuestion : IsSome question → Stops commands question lines rest
  AtQuit : BeginsWithQuit rest → Stops commands question lines rest
  AtEnd : HasNoLine rest → Stops commands question lines rest

-- what a line says: nothing, a command or a question
abbrev pub Says : List Shape → List ℕ → Said → Type 0
Says maps line said.Nothing = IsTaken maps line × (line_asks maps line ≡ None)
Says maps line (said.Command command) = IsTaken maps line × (line_asks maps line ≡ Some (asked_of command))
Says maps line (said.Question question) = IsQuestion maps line question

-- the question of a line with this number, if it is one
abbrev pub own_questions : ℕ → Added → List (ℕ × Question)
own_questions number added.GoesOn = []
own_questions number added.Waits = []
own_questions number (added.Asks question) = (number, question) ∷ []

-- whether the last of these commands is a `wait`, after one line was added
abbrev pub Leaves : Added → List Numbered → List Numbered → Type 0
Leaves added.GoesOn old new = NoneWaits old → NoneWaits new
Leaves added.Waits old new = (NoneWaits old → after_wait new ≡ []) × EndsInWait new
Leaves (added.Asks question) old new = NoneWaits old → NoneWaits new
