-- What a script asks for, line by line.
use Rattle.std.specs.Borrow.{Bor}
use Rattle.std.specs.Prelude.{◌≡◌, ◌<◌, ℕ, ◌+◌, ◌==◌, List, [], ◌∷◌, ◌++◌, length, take, Option, Some, None, slice_get}
use Rattle.std.specs.List.{All, slice_split}
use Rattle.bpf_regions.specs.declared.maps.Shape.{Shape}
use Rattle.apd_script.specs.Asked.{Asked, commands_of}
use Rattle.apd_script.specs.declared.command.Numbered.{Numbered}
use Rattle.apd_script.specs.Lines.{line_asks, IsWellFormed}

-- the lines of a text, split at its line feeds; if it ends with one, its last line is empty
abbrev pub lines_of : List ℕ → List (List ℕ)
lines_of text = slice_split (λ c. c == 10) text

-- how many lines a text has
abbrev pub line_count : List ℕ → ℕ
line_count text = length (lines_of text)

-- the first line of a text, and the text after its line feed, if it has one
abbrev pub Cuts : List ℕ → List ℕ → Option (Bor (List ℕ)) → Type 0
Cuts text line None = lines_of text ≡ line ∷ []
Cuts text line (Some rest) =
    (lines_of text ≡ line ∷ lines_of rest.now) × (length rest.now < length text)

-- what a line with this number asks for, followed by what later lines ask for
abbrev pub numbered : ℕ → Option Asked → List (ℕ × Asked) → List (ℕ × Asked)
numbered number None rest = rest
numbered number (Some asked) rest = (number, asked) ∷ rest

-- what lines ask for, each with its number; the first line has this number
abbrev pub asked_from : List Shape → ℕ → List (List ℕ) → List (ℕ × Asked)
asked_from maps number [] = []
asked_from maps number (line ∷ lines) =
    numbered number (line_asks maps line) (asked_from maps (number + 1) lines)

-- the commands `old`, followed by what the line with this number asks for
abbrev pub AddsLine : List Shape → ℕ → List ℕ → List Numbered → List Numbered → Type 0
AddsLine maps number line old new =
    commands_of new ≡ commands_of old ++ numbered number (line_asks maps line) []

-- no line of the text is malformed, and these are its commands, with line numbers counted from 1
pub record IsScript (maps : List Shape) (text : List ℕ) (commands : List (ℕ × Asked)) : Type 0 where
  pub well_formed : All (IsWellFormed maps) (lines_of text)
  pub asked : commands ≡ asked_from maps 1 (lines_of text)

-- the first malformed line of the text follows `before` lines
pub record IsMalformedAfter (maps : List Shape) (text : List ℕ) (before : ℕ) : Type 0 where
  pub well_formed : All (IsWellFormed maps) (take before (lines_of text))
  pub line : List ℕ
  pub there : slice_get (lines_of text) before ≡ Some line
  pub malformed : IsWellFormed maps line → ⊥
