-- What the lines of a file of cases say, in terms of lists of bytes.
use Rattle.std.specs.Prelude.{ℕ, List, map, Option, option_map}
use Rattle.bpf_regions.specs.declared.hooks.Hook.{Hook}
use Rattle.apd_script.specs.Digits.{bytes_of}
use Rattle.apd_script.specs.Words.{words}
use Rattle.apd_cases.specs.declared.line.Expectation.{Expectation}
use Rattle.apd_cases.specs.declared.line.Line.{Line}
use Rattle.apd_cases.specs.declared.line.Line.TheVariants as line
use Rattle.apd_cases.specs.declared.line.Numbered.{Numbered}
use Rattle.apd_cases.specs.declared.line.Place.{Place}

-- a line: files by their paths, what is given by its words, a frame by its bytes
pub data Said : Type 0 where
  Policy : Hook → List ℕ → Said
  Config : List ℕ → Said
  Given : List (List ℕ) → Said
  Clock : ℕ → Said
  Stations : ℕ → Said
  Word : Place → ℕ → Said
  Frame : List ℕ → Said
  Expect : Expectation → Said

-- what a line says
abbrev pub said_of : Line → Said
said_of (line.Policy hook path) = Policy hook path.now
said_of (line.Config path) = Config path.now
said_of (line.Given given) = Given (words given.now)
said_of (line.Clock clock) = Clock clock
said_of (line.Stations stations) = Stations stations.count
said_of (line.Word place value) = Word place value
said_of (line.Frame text) = Frame (bytes_of text.digits.now)
said_of (line.Expect e) = Expect e

-- what is said, if anything
abbrev pub said_by : Option Line → Option Said
said_by line = option_map said_of line

-- a line's number, and what the line says
abbrev pub numbered_of : Numbered → ℕ × Said
numbered_of n = (n.number, said_of n.line)

-- what lines say, each with its number
abbrev pub lines_said : List Numbered → List (ℕ × Said)
lines_said lines = map numbered_of lines
