-- What a line of a file of cases says, by its words.
use Rattle.std.specs.Prelude.{ℕ, ◌^◌, List, [], ◌∷◌, codes, Option, Some, None, option_map, option_and_then, IsSome, if◌then◌else◌, IsUtf8}
use Rattle.std.specs.List.{list_any}
use Rattle.std.specs.Result.{result_ok}
use Rattle.std.specs.Str.{bytes_eq}
use Rattle.hex.specs.Hex.{decode_of}
use Rattle.apd_script.specs.Lines.{◌>>=◌}
use Rattle.apd_script.specs.Words.{words, is_forbidden, begins_comment, number_below, hook_named}
use Rattle.apd_cases.specs.Expected.{place_named, expected}
use Rattle.apd_cases.specs.Said.{Said, Policy, Config, Given, Clock, Stations, Word, Frame, Expect}

-- `policy HOOK FILE`
abbrev pub policy_said : List (List ℕ) → Option Said
policy_said (name ∷ path ∷ []) = option_map (λ hook. Policy hook path) (hook_named name)
policy_said _ = None

-- `config FILE`
abbrev pub config_said : List (List ℕ) → Option Said
config_said (path ∷ []) = Some (Config path)
config_said _ = None

-- `clock N`, N below 2^64
abbrev pub clock_said : List (List ℕ) → Option Said
clock_said (clock ∷ []) = option_map Clock (number_below (2 ^ 64) clock)
clock_said _ = None

-- `stations N`, N at most 2007
abbrev pub stations_said : List (List ℕ) → Option Said
stations_said (count ∷ []) = option_map Stations (number_below 2008 count)
stations_said _ = None

-- `word MAP INDEX WORD VALUE`, a value below 2^64
abbrev pub word_said : List (List ℕ) → Option Said
word_said (map ∷ entry ∷ word ∷ value ∷ []) = do
  place ← place_named map entry word
  number ← number_below (2 ^ 64) value
  Some (Word place number)
word_said _ = None

-- `frame HEX`: an even number of hex digits, of either case
abbrev pub frame_said : List (List ℕ) → Option Said
frame_said (digits ∷ []) = option_map Frame (result_ok (decode_of digits))
frame_said _ = None

-- what a keyword and its operands say, of which there are at most four
abbrev pub plain_said : List ℕ → List (List ℕ) → Option Said
plain_said keyword operands =
    (if bytes_eq keyword (codes "policy") then policy_said operands else
    (if bytes_eq keyword (codes "config") then config_said operands else
    (if bytes_eq keyword (codes "clock") then clock_said operands else
    (if bytes_eq keyword (codes "stations") then stations_said operands else
    (if bytes_eq keyword (codes "word") then word_said operands else
    (if bytes_eq keyword (codes "frame") then frame_said operands else None))))))

-- `expect ..`
abbrev pub expect_said : List (List ℕ) → Option Said
expect_said operands = option_map Expect (expected operands)

-- what a keyword and its operands say: `given KEY=VALUE ..` and `expect ..` may have more
abbrev pub keyword_said : List ℕ → List (List ℕ) → Option Said
keyword_said keyword operands =
    (if bytes_eq keyword (codes "given") then Some (Given operands) else
    (if bytes_eq keyword (codes "expect") then expect_said operands else
    plain_said keyword operands))

-- what words say: nothing if there are none or they are a comment; `None` if they are malformed
abbrev pub words_said : List (List ℕ) → Option (Option Said)
words_said [] = Some None
words_said (keyword ∷ operands) =
    (if begins_comment keyword then Some None else option_map Some (keyword_said keyword operands))

-- what the words of a text say
abbrev pub says : List ℕ → Option (Option Said)
says line = words_said (words line)

-- the same for a line; a tab or a carriage return anywhere makes it malformed
abbrev pub text_said : List ℕ → Option (Option Said)
text_said line = (if list_any is_forbidden line then None else says line)

-- what a line says, if anything
abbrev pub line_says : List ℕ → Option Said
line_says line = option_and_then (λ said. said) (text_said line)

-- the line is UTF-8, and blank, a comment, or one of the kinds of lines
pub record IsWellFormed (line : List ℕ) : Type 0 where
  pub utf8 : IsUtf8 line
  pub said : IsSome (text_said line)
