-- What a line of `apd live` asks to be told.
use Rattle.std.specs.Prelude.{◌≡◌, ℕ, List, [], ◌∷◌, length, codes, Option, Some, None, slice_get, if◌then◌else◌, IsUtf8}
use Rattle.std.specs.List.{list_any}
use Rattle.std.specs.Str.{bytes_eq}
use Rattle.bpf_regions.specs.declared.maps.Shape.{Shape}
use Rattle.apd_script.specs.declared.question.Question.{Question}
use Rattle.apd_script.specs.declared.question.Question.TheVariants.{Help, Stations, Agreements, Programs, Counters, Dump}
use Rattle.apd_script.specs.Lines.{◌>>=◌}
use Rattle.apd_script.specs.Words.{words, is_forbidden, number_below}

-- a question that has no operands
abbrev pub asked_alone : Question → List (List ℕ) → Option Question
asked_alone question [] = Some question
asked_alone question _ = None

-- `dump MAP`
abbrev pub dump_asked : List Shape → List (List ℕ) → Option Question
dump_asked maps (map ∷ []) = do
  number ← number_below (length maps) map
  shape ← slice_get maps number
  Some (Dump number shape)
dump_asked maps _ = None

-- what a keyword and its operands ask to be told
abbrev pub question_asked : List Shape → List ℕ → List (List ℕ) → Option Question
question_asked maps keyword operands =
    (if bytes_eq keyword (codes "help") then asked_alone Help operands else
    (if bytes_eq keyword (codes "stations") then asked_alone Stations operands else
    (if bytes_eq keyword (codes "agreements") then asked_alone Agreements operands else
    (if bytes_eq keyword (codes "programs") then asked_alone Programs operands else
    (if bytes_eq keyword (codes "counters") then asked_alone Counters operands else
    (if bytes_eq keyword (codes "dump") then dump_asked maps operands else None))))))

-- what words ask to be told
abbrev pub words_ask : List Shape → List (List ℕ) → Option Question
words_ask maps [] = None
words_ask maps (keyword ∷ operands) = question_asked maps keyword operands

-- what the words of a text ask to be told
abbrev pub question_said : List Shape → List ℕ → Option Question
question_said maps line = words_ask maps (words line)

-- the same for a line; a tab or a carriage return anywhere makes it malformed
abbrev pub line_question : List Shape → List ℕ → Option Question
line_question maps line = (if list_any is_forbidden line then None else question_said maps line)

-- the line is UTF-8, and asks to be told this
pub record Asks (maps : List Shape) (line : List ℕ) (question : Question) : Type 0 where
  pub utf8 : IsUtf8 line
  pub said : line_question maps line ≡ Some question
