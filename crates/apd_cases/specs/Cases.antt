-- What a file of cases says, line by line.
use Rattle.std.specs.Prelude.{◌≡◌, ℕ, ◌+◌, List, [], ◌∷◌, ◌++◌, take, Option, Some, None, slice_get}
use Rattle.std.specs.List.{All}
use Rattle.apd_script.specs.Script.{lines_of}
use Rattle.apd_cases.specs.Said.{Said, lines_said}
use Rattle.apd_cases.specs.Grammar.{line_says, IsWellFormed}
use Rattle.apd_cases.specs.declared.line.Numbered.{Numbered}
use Rattle.apd_cases.specs.declared.cases.Unread.{Unread}
use Rattle.apd_cases.specs.declared.cases.Unread.TheVariants.{Malformed, NoMemory}

-- what a line with this number says, followed by what later lines say
abbrev pub numbered : ℕ → Option Said → List (ℕ × Said) → List (ℕ × Said)
numbered number None rest = rest
numbered number (Some said) rest = (number, said) ∷ rest

-- what lines say, each with its number; the first line has this number
abbrev pub said_from : ℕ → List (List ℕ) → List (ℕ × Said)
said_from number [] = []
said_from number (line ∷ lines) = numbered number (line_says line) (said_from (number + 1) lines)

-- the lines `old`, followed by what the line with this number says
abbrev pub AddsLine : ℕ → List ℕ → List Numbered → List Numbered → Type 0
AddsLine number line old new =
    lines_said new ≡ lines_said old ++ numbered number (line_says line) []

-- no line of the text is malformed, and this is what they say, with line numbers counted from 1
pub record AreCases (text : List ℕ) (said : List (ℕ × Said)) : Type 0 where
  pub well_formed : All IsWellFormed (lines_of text)
  pub said_is : said ≡ said_from 1 (lines_of text)

-- the first malformed line of the text follows `before` lines
pub record IsMalformedAfter (text : List ℕ) (before : ℕ) : Type 0 where
  pub well_formed : All IsWellFormed (take before (lines_of text))
  pub line : List ℕ
  pub there : slice_get (lines_of text) before ≡ Some line
  pub malformed : IsWellFormed line → ⊥

-- this line, counted from 1, is the first that is malformed
abbrev pub IsFirstMalformed : List ℕ → ℕ → Type 0
IsFirstMalformed text number = (before : ℕ) × (number ≡ before + 1) × IsMalformedAfter text before

-- why a text has no cases; lack of memory says nothing of the text
abbrev pub Spoils : List ℕ → Unread → Type 0
Spoils text (Malformed number) = IsFirstMalformed text number
Spoils text NoMemory = Unit {0}

-- why a line with this number isn't added
abbrev pub SpoilsAt : ℕ → List ℕ → Unread → Type 0
SpoilsAt number line (Malformed at) = (at ≡ number) × (IsWellFormed line → ⊥)
SpoilsAt number line NoMemory = Unit {0}
